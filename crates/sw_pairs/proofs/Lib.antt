mod Pairs
mod PairSet

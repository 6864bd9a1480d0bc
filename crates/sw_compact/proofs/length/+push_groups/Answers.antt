use Rattle.std.proofs.Common.{[], ◌∷◌, ◌+◌, ◌-◌, ◌/◌, ◌%◌, sym, subst}
use Rattle.sw_compact.specs.Lengths.{groups}
use Rattle.sw_compact.specs.Inner.Appended.{IsAppended}
use Rattle.sw_compact.proofs.Appending.{appended-then}
use Rattle.sw_compact.proofs.Groups.{groups-more}
use Rattle.sw_compact.proofs.length.+push_groups.Goals as goal

pub returns : goal.returns
returns t c =
    let n = c.args.length in
    let m = c.args.most in
    subst (IsAppended c.push_groups.result c.args.out.now.items c.push_groups.new.out.items) (sym (groups-more m n c.if-most-eq0.false c.if-length-lt128.false))
    (appended-then c.push_groups.result c.args.out.now.items c.append_byte-2.new.out.items c.push_groups.new.out.items ((128 + n % 128) ∷ []) (groups (m - 1) (n / 128)) c.in_ok-append_byte.ensures c.push_groups.ensures)

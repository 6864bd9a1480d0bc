use Rattle.std.proofs.Common.{◌≡◌, ap, ◌∙◌, arith, length, length-append, ◌-◌, ◌+◌}
use Rattle.sw_compact.specs.Lengths.{length_bytes}
use Rattle.sw_compact.proofs.Exchange.{respelled}
use Rattle.sw_compact.proofs.writer.respell.Goals as goal

pub returns-else-width-told : goal.returns-else-width-told
returns-else-width-told c =
    let b = c.args.out.now.items in
    let n = length_bytes c.args.version c.args.count in
    let d = c.deref_mut.result.now in
    let is = c.deref_mut.ensures.value ∙ c.in_ok-push_length.ensures in
    let total = ap length is in
    let w : c.len.result - c.len-end.result ≡ length n
    = omega (arith, c.len.ensures, c.len-end.ensures, c.args.out.now.ok.0, c.push_length.new.out.ok.0, ap length c.in_ok-push_length.ensures, length-append b n) in
    let m : c.push_length.new.out.len ≡ length d = omega (arith, c.push_length.new.out.ok.0, ap length c.deref_mut.ensures.value) in
    respelled b n d c.exchange.new.bytes c.push_length.new.out.items c.truncate-else-width-told.new.self.items c.args.at c.args.start (c.len.result - c.len-end.result)
    (c.len-end.result + (c.len.result - c.len-end.result) - (c.args.start - c.args.at)) c.push_length.new.out.len
    c.requires.ordered (omega (arith, c.requires.in_bounds, c.args.out.now.ok.0)) is w c.exchange.ensures m
    (omega (arith, w, total, length-append b n, c.len-end.ensures, c.args.out.now.ok.0)) c.truncate-else-width-told.ensures.items

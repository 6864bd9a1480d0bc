use Rattle.sw_compact.proofs.Exchange.{exchanged}
use Rattle.sw_compact.proofs.writer.exchange.Goals as goal

pub returns : goal.returns
returns c o q n is lo ln =
    exchanged c.args.bytes.now c.rotate_left.new.self c.rotate_right.new.self o q n c.args.front c.args.end is lo ln c.rotate_left.ensures.after c.rotate_right.ensures.after

use Rattle.std.proofs.Common.{arith}
use Rattle.report.proofs.Streams.{item_consumed, item_whole}
use Rattle.report.proofs.stream.next_item.Goals as goal

pub returns-clause-consumed : goal.returns-clause-consumed
returns-clause-consumed g c =
    item_consumed _ _ _ c.in_ok-first.first c.in_ok-more.more _ c.fill.new.bytes _ c.fill-2.new.bytes c.in_ok-first.ensures.bound c.in_ok-more.ensures.bound
    c.in_ok-first.ensures.consumed c.in_ok-more.ensures.consumed

pub returns-clause-whole : goal.returns-clause-whole
returns-clause-whole g c =
    item_whole _ _ _ c.in_ok-first.first c.in_ok-more.more c.wanted-all.result _ c.fill.new.bytes _ c.fill-2.new.bytes (omega (arith, c.in_ok-first.ensures.bound)) c.in_ok-first.ensures.bound
    c.wanted-all.ensures.value (omega arith) c.in_ok-more.ensures.bound c.in_ok-first.ensures.consumed c.in_ok-more.ensures.consumed c.in_ok-more.ensures.full

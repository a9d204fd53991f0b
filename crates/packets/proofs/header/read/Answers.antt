use Rattle.std.proofs.Common.{◌≡◌, ℕ, ◌-◌, ◌*◌, List, take, drop, Ok, sym, ap, ◌∙◌, arith}
use Rattle.packets.specs.Header.{octet}
use Rattle.packets.specs.Datagram.{header_length, payload_of, ports_of}
use Rattle.packets.proofs.Order.{Sized, sized, at_front_sum, at_front, same_fields}
use Rattle.packets.proofs.header.read.Goals as goal

pub returns-then-not-adds_up : goal.returns-then-not-adds_up
returns-then-not-adds_up c =
    let all : Sized c.args.bytes.now = sized c.args.bytes.now c.header_words-words.result c.total_length-total.result c.header_words-words.ensures c.total_length-total.ensures
    c.if-is_short.ensures c.if-not-is_version_four.ensures c.if-is_header_short.ensures c.if-is_outside.ensures in
    sym (at_front_sum c.args.bytes.now (c.header_words-words.result * 4) all (omega arith) c.if-not-adds_up.ensures)

pub returns : goal.returns
returns c =
    let b : List ℕ = c.args.bytes.now in
    let all : Sized b = sized b c.header_words-words.result c.total_length-total.result c.header_words-words.ensures c.total_length-total.ensures
    c.if-is_short.ensures c.if-not-is_version_four.ensures c.if-is_header_short.ensures c.if-is_outside.ensures in
    let header : c.header_words-words.result * 4 ≡ header_length b = omega arith in
    let total = c.total_length-total.ensures in
    let payload : take (c.total_length-total.result - c.header_words-words.result * 4) (drop (c.header_words-words.result * 4) b) ≡ payload_of b = cc in
    let ports : c.ports.result ≡ ports_of (octet b 9) (payload_of b) = c.ports.ensures ∙ ap (ports_of (octet b 9)) payload in
    ap Ok (same_fields b _ _ _ _ c.address.ensures c.address-2.ensures payload ports)
    ∙ sym (at_front b (c.header_words-words.result * 4) all header c.if-not-adds_up.ensures)

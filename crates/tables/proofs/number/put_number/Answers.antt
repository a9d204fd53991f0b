use Rattle.std.proofs.Common.{◌-◌, length, take, drop, ap, ◌∙◌, arith}
use Rattle.std.proofs.lemmas.List.{take_all}
use Rattle.tables.proofs.Words.{bytes_spelt, drop_spelt, length_spelt}
use Rattle.tables.proofs.number.put_number.Goals as goal

pub returns : goal.returns
returns c =
    let k = length c.args.buffer.now in
    let e = drop_spelt (16 - k) k 16 c.args.n (omega arith) in
    c.copy_from_slice.ensures.after
    ∙ ap (λ bs. take (16 - (16 - k)) (drop (16 - k) bs)) (c.to_be_bytes-bytes.ensures ∙ bytes_spelt 16 c.args.n)
    ∙ ap (take (16 - (16 - k))) e
    ∙ take_all (16 - (16 - k)) _ (omega (arith, length_spelt k c.args.n))

use Rattle.std.proofs.Common.{length, ap, subst, ◌∙◌, refl, arith}
use Rattle.std.proofs.lemmas.List.{length_push}
use Rattle.kinds.specs.Strings.{Str}
use Rattle.filters.specs.Meaning.{prefix_of}
use Rattle.grid.specs.Build.{Grown, in_trie, above}
use Rattle.grid.proofs.Spelling.{bits_turn, bits_end}
use Rattle.grid.proofs.Paths.{path_none, path_more, goes_in_trie}
use Rattle.grid.proofs.grid.Grid.insert_path.Goals as goal

pub loop-bit-init : goal.loop-bit-init
loop-bit-init g c =
    let self = c.args.self.now in
    (refl, c.requires.start, omega arith, omega arith, λ own keys o st e. path_none own keys self.nodes.now self.used o c.args.start st e)

pub loop-bit-preserved : goal.loop-bit-preserved
loop-bit-preserved g c =
    let s = c.loop-bit.yielded in
    let b = c.in-Some.bit in
    let x = c.extend-at.ensures in
    let l = length_push s b in
    let old = c.loop-bit.self in
    let new = c.extend-at.new.self in (
      x.places ∙ c.loop-bit.invariant.0,
      x.found,
      omega (arith, x.least),
      omega (arith, x.most),
      λ own keys o st e.
          let m = c.loop-bit.invariant.4 own keys o st e in
          path_more own keys o s b old.nodes.now old.used c.loop-bit.at new.nodes.now new.used c.extend-at.result m (x.grid own m.more (in_trie o s) m.state m.here (goes_in_trie o s b)),
    )

pub extend-at-requires-clause-room : goal.extend-at-requires-clause-room
extend-at-requires-clause-room g c =
    let p = prefix_of g.A.Address.string c.args.path.now in
    let l = c.loop-bit in
    let more = bits_turn c.into_iter-bit-iterator.result l.yielded l.bit-iterator c.next.new.self c.next.result l.yielded_by c.next.ensures.steps p c.in-Some.bit (cc) c.in-Some.is in
    (omega (arith, more), omega (arith, more))

pub returns : goal.returns
returns g c =
    let p = prefix_of g.A.Address.string c.args.path.now in
    let l = c.loop-bit in
    let is = bits_end c.into_iter-bit-iterator.result l.yielded l.bit-iterator c.next.new.self c.next.result l.yielded_by c.next.ensures.steps p (cc) c.in-None.is in
    let long = ap (λ (z : Str). length z) is in
    let v = l.invariant in
    record {
      found = v.1;
      least = v.2;
      most = omega (arith, v.3, long);
      places = v.0;
      grid = λ own keys o st e. subst (λ (z : Str). Grown own keys (above (in_trie o z)) (in_trie o z) l.self.nodes.now l.self.used l.at) is (v.4 own keys o st e);
    }

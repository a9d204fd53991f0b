use Rattle.std.proofs.Common.{set, Some, None, sym, refl, ◌∙◌, subst, arith}
use Rattle.std.proofs.lemmas.List.{length-set}
use Rattle.grid.specs.declared.node.Node.{Node}
use Rattle.grid.specs.Nodes.{node_at}
use Rattle.grid.specs.Edits.{keep_in}
use Rattle.filters.specs.Meaning.{prefix_of}
use Rattle.grid.specs.Build.{Safe, Inserted, in_trie}
use Rattle.grid.proofs.Paths.{inserted}
use Rattle.grid.proofs.Spelling.{prefix_short}
use Rattle.grid.proofs.Sound.{sound_at}
use Rattle.grid.proofs.Safety.{safe_set, links_keep}
use Rattle.grid.proofs.grid.Grid.insert.Goals as goal

pub invariant_of-self : goal.invariant_of-self
invariant_of-self g c =
    let self = c.insert_path-end.new.self in
    let N = self.nodes.now in
    let e = c.insert_path-end.result in
    let s = subst (λ (n : Node). Safe self.used (set N e n)) (sym c.keep.ensures)
    (safe_set self.used N e (keep_in (node_at N e) c.args.kept) (record { fits = self.fits; linked = self.linked; rest = self.rest }) c.insert_path-end.ensures.found
    (links_keep self.used (node_at N e) c.args.kept (sound_at self.used N e self.linked))) in
    record { fits = s.fits; linked = s.linked; rest = s.rest }

pub returns : goal.returns
returns g c =
    let D = prefix_of g.D.Address.string c.args.to.now in
    let s = prefix_of g.S.Address.string c.args.from.now in
    let a = prefix_short g.D.Address.string g.D.Address.WIDTH g.met.D.Address.long c.args.to.now in
    let b = prefix_short g.S.Address.string g.S.Address.WIDTH g.met.S.Address.long c.args.from.now in
    let self1 = c.plant.new.self in
    let self2 = c.insert_path-leaf.new.self in
    let self3 = c.extend-root.new.self in
    let self4 = c.insert_path-end.new.self in
    let end = c.insert_path-end.result in
    record {
      most = omega (arith, c.insert_path-end.ensures.most, c.extend-root.ensures.most, c.insert_path-leaf.ensures.most, c.plant.ensures.count);
      places =
          length-set self4.nodes.now end c.keep.new.self
          ∙ c.insert_path-end.ensures.places ∙ c.extend-root.ensures.places ∙ c.insert_path-leaf.ensures.places ∙ c.plant.ensures.places;
      grid = λ own keys st.
          let g1 = c.plant.ensures.grid own keys st in
          let g2 = c.insert_path-leaf.ensures.grid own g1.more None g1.state g1.here in
          let g3 = c.extend-root.ensures.grid own g2.more (in_trie None D) g2.state g2.here refl in
          let g4 = c.insert_path-end.ensures.grid own g3.more (Some D) g3.state g3.here in
          subst (λ (n : Node). Inserted own keys D s c.args.kept (set self4.nodes.now end n) self4.used) (sym c.keep.ensures)
          (inserted own keys D s c.args.kept self1.nodes.now self1.used self2.nodes.now self2.used c.insert_path-leaf.result self3.nodes.now self3.used
          c.extend-root.result self4.nodes.now self4.used end g1 g2 g3 g4);
    }

-- How a gateway follows its history, call after call, and what is assured at the end.
use Rattle.std.proofs.Common.{◌≡◌, ℕ, zero, suc, ◌+◌, ◌*◌, ◌≤◌, List, [], ◌∷◌, length, sym, refl, ap, ◌∙◌, subst, arith}
use Rattle.kinds.specs.Strings.{Str}
use Rattle.filters.specs.Directives.{named}
use Rattle.filters.specs.Orders.{Compares}
use Rattle.filters.specs.Rules.{better}
use Rattle.filters.proofs.Bests.{ranks}
use Rattle.tries.specs.Shape.{nodes, need}
use Rattle.tries.proofs.Nodes.{nodes_few}
use Rattle.tries.proofs.Same.{order_is_nothing}
use Rattle.grid.specs.Refusals.{trail_verdict}
use Rattle.grid.proofs.Counts.{keys_count}
use Rattle.gateway.specs.declared.history.Call.{Call}
use Rattle.gateway.specs.declared.history.Outcome.{Outcome}
use Rattle.gateway.specs.Assurance.{Answer, Right, answer_of, After, GatewayOf, room_of, places_of, Follows, Assured, Assurance}
use Rattle.gateway.specs.History.{Left, made, step, steps, past}
use Rattle.gateway.specs.Kinds.{Kinds}
use Rattle.gateway.proofs.Assured.{answer_right}

-- so many places are enough, said in one way for any number of filters
need_bound : (n wd ws : ℕ) → need n wd ws ≤ 1 + n * (wd + ws + 1)
need_bound zero wd ws = omega arith
need_bound (suc n) wd ws = omega arith

module _ {D S C D' S' C' : Type 0} (K : Kinds D S C D' S' C') where
  -- a gateway that began as v is now w, when of its calls the rest are still to be made
  pub record Reached (v w : GatewayOf K) (calls rest : List (Call D S C)) : Type 0 where
    pub room : room_of K w ≡ room_of K v
    pub places : places_of K w ≡ places_of K v
    pub left : Left C
    pub stands : After K left w
    pub goes : steps K (room_of K v) (places_of K v) left rest ≡ past K (room_of K v) (places_of K v) calls

  pub reached_none : (v : GatewayOf K) (calls : List (Call D S C)) → After K made v → Reached v v calls calls
  reached_none v calls h = record { room = refl; places = refl; left = made; stands = h; goes = refl }

  pub reached_more : (v w w' : GatewayOf K) (calls rest : List (Call D S C)) (c : Call D S C) → Reached v w calls (c ∷ rest) → Follows K c w w'
      → Reached v w' calls rest
  reached_more v w w' calls rest c h f =
      record {
        room = f.room ∙ h.room;
        places = f.places ∙ h.places;
        left = step K (room_of K v) (places_of K v) h.left c;
        stands =
            subst (λ (z : ℕ × ℕ). After K (step K z.0 z.1 h.left c) w') (λ i. (h.room i, h.places i))
            (f.leaves h.left h.stands);
        goes = h.goes;
      }

  pub reached_all : (v w : GatewayOf K) (calls : List (Call D S C)) (cap places : ℕ) → room_of K v ≡ cap → places_of K v ≡ places → Reached v w calls []
      → After K (past K cap places calls) w
  reached_all v w calls cap places r p h =
      subst (λ (l : Left C). After K l w) (h.goes ∙ (λ i. past K (r i) (p i) calls)) h.stands

  -- what is assured of a gateway that stands as a history leaves it
  module _ (laws : Compares K.cost.order) (d s : Str) (long : length d ≡ K.dst.WIDTH) (long' : length s ≡ K.src.WIDTH) where
    pub assured_after : (l : Left C) (w : GatewayOf K) → After K l w → (places : ℕ) (o : Outcome) → o.found ≡ answer_of K l.built d s
        → o.trailed ≡ trail_verdict places K.dst.WIDTH K.src.WIDTH (answer_of K l.built d s) → o.nodes ≡ w.grid.now.used → Assured K l d s places o
    assured_after l w h places o f t u =
        let g = h.derived in
        let e : o.nodes ≡ nodes l.built = u ∙ sym g.long ∙ keys_count l.built g.keys g.distinct g.whole in
        let n = nodes_few l.built K.dst.WIDTH K.src.WIDTH h.short in
        let m = need_bound (length l.built) K.dst.WIDTH K.src.WIDTH in
        record {
          apart = h.apart;
          equals = f;
          found =
              subst (λ (a : Answer). Right K.cost.order K.dst.WIDTH K.src.WIDTH l.built d s a) (sym f)
              (answer_right K.cost.order laws l.built h.apart d s K.dst.WIDTH K.src.WIDTH long long');
          trailed = t ∙ ap (trail_verdict places K.dst.WIDTH K.src.WIDTH) (sym f);
          counted = e;
          bounded = omega arith;
        }

  -- two outcomes that are assured each for itself are assured together: the same built filters, in any order, give the same outcome
  pub agree : Compares K.cost.order → (l m : Left C) (d s : Str) (n k : ℕ) (o p : Outcome) → Assured K l d s n o → Assured K m d s k p
      → Assurance K l m d s n k (o, p)
  agree laws l m d s n k o p a b =
      record {
        first = a;
        second = b;
        same = λ alike.
            let q = order_is_nothing (better K.cost.order) (ranks K.cost.order laws) l.built m.built a.apart alike d s in
            (a.equals ∙ (λ i. (named (q.0 i), q.2 i)) ∙ sym b.equals, a.counted ∙ q.4 ∙ sym b.counted);
      }

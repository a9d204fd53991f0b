-- Installing: what loading and building leave together.
use Rattle.std.proofs.Common.{◌≡◌, ℕ, Bool, true, false, cond, List, length, Ok, Err, Result, refl, ap, ◌∙◌, subst, MatchResult}
use Rattle.tables.specs.declared.fault.LoadFault.{LoadFault}
use Rattle.tries.specs.Shape.{nodes}
use Rattle.book.specs.Books.{after}
use Rattle.grid.specs.declared.build.BuildFault.{BuildFault}
use Rattle.grid.specs.declared.build.BuildFault.TheVariants.{Places}
use Rattle.grid.specs.Derived.{Derived}
use Rattle.grid.specs.Refusals.{too_few}
use Rattle.gateway.specs.declared.fault.InstallFault.{InstallFault}
use Rattle.gateway.specs.declared.fault.InstallFault.TheVariants.{Build}
use Rattle.gateway.specs.declared.gateway.Installed.{Installed}
use Rattle.gateway.specs.Calls.{Loads, Builds, Installs, installing}
use Rattle.gateway.specs.Kinds.{Kinds, BookOf, GridOf, ahead, filters_in, filters_of}

-- the answer of installing n filters, by that of building
abbrev pub installed_by : ℕ → Result ℕ BuildFault → Result Installed InstallFault
installed_by n (Ok m) = Ok (record { filters = n; nodes = m })
installed_by n (Err e) = Err (Build e)

by_test : (t : Bool) (n m : ℕ) → installed_by n (cond t (Err Places) (Ok m)) ≡ cond t (Err (Build Places)) (Ok (record { filters = n; nodes = m }))
by_test true n m = refl
by_test false n m = refl

-- the grid after a build, as installing says it
grid_by : (P Q : Type 0) {R : Type 0} (n : ℕ) (r : Result ℕ BuildFault) → MatchResult r (λ _. P) (λ _. Q) → ((e : BuildFault) → r ≡ Err e → R) → MatchResult (installed_by n r) (λ _. P) (λ _. Q × R)
grid_by P Q n (Ok m) c f = c
grid_by P Q n (Err e) c f = (c, f e refl)

module _ {D S C D' S' C' : Type 0} (K : Kinds D S C D' S' C') (bytes : List ℕ) (b b' : BookOf K) (g g' : GridOf K) where
  -- an accepted load and then a build
  pub load_and_build : (n : ℕ) → Loads K bytes (Ok n) b b' → filters_in K b' ≡ filters_of K bytes → (r : Result ℕ BuildFault) → Builds K r b' g g'
      → Installs K bytes (installed_by n r) b b' g g'
  load_and_build n a m r build =
      record {
        answer =
            ap (installed_by n)
            (build.answer ∙ (λ i. cond {A = Result ℕ BuildFault} (too_few (length g.nodes.now) (a.count i) K.dst.WIDTH K.src.WIDTH) (Err Places) (Ok (nodes (m i)))))
            ∙ by_test (too_few (length g.nodes.now) n K.dst.WIDTH K.src.WIDTH) n (nodes (filters_of K bytes))
            ∙ ap (installing K (length g.nodes.now) bytes) a.answer;
        book = subst (λ (z : Result ℕ LoadFault). Loads K bytes z b b') a.answer a;
        grid =
            grid_by (Derived (ahead K) (filters_in K b') g'.nodes.now g'.used) (g'.nodes.now ≡ g.nodes.now) n r build.memory
            (λ e q. build.count ∙ ap (λ (z : Result ℕ BuildFault). after z (nodes (filters_in K b')) g.used) q);
      }

-- Trivial pairs, whose two ends are one vertex, are dropped: the problem stays good, and a routing of the rest gives one of all.
-- Assumes nothing.
use Rattle.std.specs.Prelude.{◌≡◌, refl, Bool, List, [], ◌∷◌, ℕ, ◌+◌, ◌-◌, ◌*◌}
use Rattle.std.proofs.Common.{ap, inl, inr, arith}
use Rattle.count.specs.Truth.{one}
use Rattle.count.specs.TruthLaws.{bool}
use Rattle.board.specs.Board.{at}
use Rattle.board.specs.declared.Vertex.{Vertex}
use Rattle.net.specs.declared.Pair.{Pair}
use Rattle.net.specs.Terminals.{same}
use Rattle.cut.specs.Cut.{side}
use Rattle.corner.specs.Pairs.{tally, All, leaving, standing, Proper}
use Rattle.net.specs.Same.{same_true}
use Rattle.corner.proofs.Apart.{apart_same}
use Rattle.corner.specs.Shape.{Shape, Here, Good}
use Rattle.corner.specs.Trails.{Link, joined, used, Trails, total, Routed}

pub record Dropped (S : Shape) (ps : List Pair) : Type 0 where
  pub rest : List Pair
  pub proper : Proper rest
  pub cross : (X : Vertex → Bool) → leaving X ps ≡ leaving X rest
  pub fall : (X : Vertex → Bool) → (j : ℕ) × (standing X ps ≡ standing X rest + 2 * j)
  pub stays : All (Here S) ps → All (Here S) rest
  pub lift : (ts : Trails rest) → (us : Trails ps) × ((e : Link) → total e ps us ≡ total e rest ts)

pub drop : (S : Shape) (ps : List Pair) → Dropped S ps
unfolding leaving standing tally total used
drop S [] = record { rest = []; proper = tt; cross = λ X. refl; fall = λ X. (0, refl); stays = λ a. a; lift = λ ts. (ts, λ e. refl) }
drop S (p ∷ ps) = let d = drop S ps in elim (bool (same p.first p.second)) [
  | inl e ↦ let q = same_true p.first p.second e in record {
    rest = d.rest;
    proper = d.proper;
    cross = λ X. omega (arith, d.cross X, apart_same (X p.first) (X p.second) (ap X q));
    fall = λ X. ((d.fall X).0 + one (X p.first), omega (arith, (d.fall X).1, ap (λ v. one (X v)) q));
    stays = λ a. d.stays a.2;
    lift = λ ts. let u = d.lift ts in ((([], q), u.0), λ f. omega (arith, u.1 f));
  }
  | inr e ↦ record {
    rest = p ∷ d.rest;
    proper = (e, d.proper);
    cross = λ X. omega (arith, d.cross X);
    fall = λ X. ((d.fall X).0, omega (arith, (d.fall X).1));
    stays = λ a. (a.0, a.1, d.stays a.2);
    lift = λ ts. let u = d.lift ts.1 in ((ts.0, u.0), λ f. omega (arith, u.1 f));
  }
]

pub drop_good : (S : Shape) (ps : List Pair) → Good S ps → (d : Dropped S ps) → Good S d.rest
drop_good S ps G d = record {
  shaped = G.shaped;
  stand = d.stays G.stand;
  even = λ l c h. let k = G.even l c h in let f = d.fall (same (at l c)) in (k.0 - f.0, omega (arith, k.1, f.1), omega (arith, k.2));
  cuts = λ X. let k = G.cuts X in (k.0, omega (arith, k.1, d.cross (side X)));
}

pub drop_lift : (S : Shape) (ps : List Pair) (d : Dropped S ps) → Routed (joined S) d.rest → Routed (joined S) ps
drop_lift S ps d R = let u = d.lift R.trails in record { trails = u.0; once = λ e. omega (arith, u.1 e, R.once e) }

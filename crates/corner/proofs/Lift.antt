-- A routing of the smaller problem gives one of the larger, for each step.
-- Assumes that the smaller shape is the larger one without its corner, and which edges the corner has.
use Rattle.std.specs.Prelude.{◌≡◌, refl, true, List, ◌∷◌, ◌++◌}
use Rattle.std.proofs.Math.Path.{ap}
use Rattle.std.proofs.Math.Logic.{inl}
use Rattle.std.proofs.Common.{inr}
use native.Mathlib.Omega.{arith}
use Rattle.count.specs.Truth.{one}
use Rattle.board.specs.declared.Vertex.{Vertex}
use Rattle.net.specs.declared.Pair.{Pair}
use Rattle.corner.specs.Pairs.{pair, Take}
use Rattle.corner.specs.Shape.{Shape, UL, NUL, BUL, Less}
use Rattle.corner.specs.Trails.{Link, lo, hi, joined, used, Trail, total, Routed, right_link, down_link}
use Rattle.corner.proofs.TrailLaws.{link_sym, used_join, walk_join, put, put_total, link_one, link_two}

-- one edge
pub lift_move : (S S' : Shape) → Less S S' (UL S) → (ps rest : List Pair) (f : Link) (s : Vertex) → Take (lo f) s ps rest → lo f ≡ UL S
    → joined S f ≡ true
    → Routed (joined S') (pair (hi f) s ∷ rest) → Routed (joined S) ps
unfolding total used
lift_move S S' L ps rest f s tk p was R = record {
  trails = put (lo f) s tk t R.trails.1;
  once = λ e. omega (arith, put_total e (lo f) s tk t R.trails.1, R.once e, link_one S S' L f e p was, ap one (link_sym e f));
}
  where
    t : Trail (lo f) s
    t = (f ∷ R.trails.0.0, inl (refl, R.trails.0.1))

module _ (S S' : Shape) (L : Less S S' (UL S)) (jn : joined S (right_link S) ≡ true) (jb : joined S (down_link S) ≡ true) (ps : List Pair) where
  pub lift-split : (s t : Vertex) (rest1 rest : List Pair) → Take (UL S) s ps rest1 → Take (UL S) t rest1 rest
      → Routed (joined S') (pair (NUL S) s ∷ pair (BUL S) t ∷ rest) → Routed (joined S) ps
  unfolding total used
  lift-split s t rest1 rest k1 k2 R = record {
    trails = put (UL S) s k1 ts (put (UL S) t k2 tt' R.trails.1.1);
    once = λ e. omega (
      arith,
      put_total e (UL S) s k1 ts (put (UL S) t k2 tt' R.trails.1.1),
      put_total e (UL S) t k2 tt' R.trails.1.1,
      R.once e,
      link_two S S' L e jn jb,
      ap one (link_sym e (right_link S)),
      ap one (link_sym e (down_link S)),
    );
  }
    where
      ts : Trail (UL S) s
      ts = (right_link S ∷ R.trails.0.0, inl (refl, R.trails.0.1))

      tt' : Trail (UL S) t
      tt' = (down_link S ∷ R.trails.1.0.0, inl (refl, R.trails.1.0.1))

  pub lift-helper : Routed (joined S') (pair (NUL S) (BUL S) ∷ ps) → Routed (joined S) ps
  unfolding total
  lift-helper R = record {
    trails = R.trails.1;
    once = λ e. omega (arith, R.once e, link_two S S' L e jn jb);
  }

  pub lift-divide : (p q : Vertex) (rest : List Pair) → Take p q ps rest → Routed (joined S') (pair p (NUL S) ∷ pair (BUL S) q ∷ rest)
      → Routed (joined S) ps
  unfolding total used
  lift-divide p q rest k R = record {
    trails = put p q k t R.trails.1.1;
    once = λ e. omega (
      arith,
      put_total e p q k t R.trails.1.1,
      used_join e R.trails.0.0 (right_link S ∷ down_link S ∷ R.trails.1.0.0),
      R.once e,
      link_two S S' L e jn jb,
      ap one (link_sym e (right_link S)),
      ap one (link_sym e (down_link S)),
    );
  }
    where
      t : Trail p q
      t = (
        R.trails.0.0 ++ (right_link S ∷ down_link S ∷ R.trails.1.0.0),
        walk_join p (NUL S) q R.trails.0.0 (right_link S ∷ down_link S ∷ R.trails.1.0.0) R.trails.0.1
            (inr (refl, inl (refl, R.trails.1.0.1))),
      )

-- Whether a problem is good depends on the pairs only, not on their order nor on which end comes first; and a trivial pair can go.
-- Assumes nothing.
use Rattle.std.specs.Prelude.{◌≡◌, refl, Bool, not, List, [], ◌∷◌, ◌++◌, ℕ, ◌+◌, ◌-◌}
use Rattle.std.proofs.Common.{ap, ◌∙◌, sym, arith}
use Rattle.std.proofs.lemmas.Bool.{not-false}
use Rattle.count.specs.Truth.{one}
use Rattle.board.specs.Board.{at}
use Rattle.board.specs.declared.Vertex.{Vertex}
use Rattle.net.specs.declared.Pair.{Pair}
use Rattle.net.specs.Terminals.{same}
use Rattle.cut.specs.Cut.{side}
use Rattle.corner.specs.Pairs.{pair, apart, tally, leaving, standing, Take, SamePairs}
use Rattle.corner.proofs.Apart.{apart_sym, apart_same}
use Rattle.corner.proofs.Tallies.{all_map, standing_cons, leaving_cons, standing_none, all_out}
use Rattle.corner.proofs.Taking.{tally_take}
use Rattle.corner.specs.Shape.{Shape, present, Here, Good}
use Rattle.corner.proofs.Presence.{present_yes, present_true}

pub good_same : (S : Shape) (ps qs : List Pair) → SamePairs ps qs → Good S ps → Good S qs
unfolding standing leaving
good_same S ps qs e G = record {
  shaped = G.shaped;
  stand = all_map (λ v h. present_true S v.line v.column (not-false (present S v.line v.column) h)) qs (all_out absent qs (
      sym (e (λ u v. one (absent u) + one (absent v)) (λ u v. omega arith))
      ∙ standing_none (Here S) absent (λ u h. ap not (present_yes S u.line u.column h)) ps G.stand));
  even = λ l c h. let k = G.even l c h in (
    k.0,
    omega
        (arith, k.1, e (λ u v. one (same (at l c) u) + one (same (at l c) v)) (λ u v. omega arith)),
    k.2,
  );
  cuts = λ X. let k = G.cuts X in (k.0, omega (arith, k.1, e (λ u v. apart (side X u) (side X v)) (λ u v. apart_sym (side X u) (side X v))));
}
  where
    absent : Vertex → Bool
    absent v = not (present S v.line v.column)

pub good_drop : (S : Shape) (v : Vertex) (ps : List Pair) → Good S (pair v v ∷ ps) → Good S ps
good_drop S v ps G = record {
  shaped = G.shaped;
  stand = G.stand.2;
  even = λ l c h. let k = G.even l c h in (
    k.0 - one (same (at l c) v),
    omega (arith, k.1, standing_cons (same (at l c)) v v ps),
    omega (arith, k.2),
  );
  cuts = λ X. let k = G.cuts X in (k.0, omega (arith, k.1, leaving_cons (side X) v v ps, apart_same (side X v) (side X v) refl));
}

-- one list after the other, in either order
tally_append : (f : Vertex → Vertex → ℕ) (ps qs : List Pair) → tally f (ps ++ qs) ≡ tally f ps + tally f qs
unfolding tally
tally_append f [] qs = omega arith
tally_append f (p ∷ ps) qs = omega (arith, tally_append f ps qs)

pub append_same : (ps qs : List Pair) → SamePairs (ps ++ qs) (qs ++ ps)
append_same ps qs f s = omega (arith, tally_append f ps qs, tally_append f qs ps)

-- taking a pair out and putting it in front is one way to reorder
pub take_same : (u v : Vertex) (ps rest : List Pair) → Take u v ps rest → SamePairs ps (pair u v ∷ rest)
unfolding tally
take_same u v ps rest t f s = tally_take f s u v t

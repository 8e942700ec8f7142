-- A pair is divided at a corner with two edges and no end, as the arrays are written: the invariant is kept.
-- Assumes Ready, and that the new problem is good.
use Rattle.std.specs.Prelude.{◌≡◌, refl, Bool, true, false, not, List, ℕ, suc, ◌+◌, ◌-◌, ◌≤◌, ◌<◌, get_or, set}
use Rattle.std.proofs.Common.{ap, ap₂, ◌∙◌, sym, subst, inl, inr, arith, length-set, get_or-set_same, get_or-set_other, add-one}
use Rattle.count.specs.Bits.{eq_case}
use Rattle.corner.specs.Shape.{Shape, Good, last, UL, NUL, BUL, narrow}
use Rattle.corner.proofs.Delete.{narrow_less}
use Rattle.corner.specs.Trails.{hor, ver, same_link}
use Rattle.router_notes.specs.Limits.{pair_limit, last_pair}
use Rattle.router_notes.specs.Moves.{finish_opp}
use Rattle.router_notes.specs.Notes.{Move, edge, start, finish, opp, Item, item, bwd, parted}
use Rattle.router_notes.specs.Corner.{turn_low, across_start, across_finish, down_start, down_finish}
use Rattle.router_notes.specs.Inv.{turn, turn_i, Framed, across_move, down_move}
use Rattle.router_notes.specs.Arrays.{vtx, move_d, left_of, state_of, partD}
use Rattle.router_notes.specs.Table.{pairs_of}
use Rattle.router_notes.specs.State.{State}
use Rattle.router_notes.specs.Steps.{joint-inv}
use Rattle.router_invariant.specs.Run.{Run, shape_r, row_r, state_r, Holds}
use Rattle.router_invariant.proofs.Place.{nul-is, bul-is}
use Rattle.router_invariant.proofs.Shapes.{shuts_of, inv-narrow}
use Rattle.router_invariant.specs.Divide.{end_w, dir1, dir2, divide_run}
use Rattle.router_invariant.specs.Ready.{Ready}
use Rattle.router_invariant.proofs.ReadyLaws.{shaped, top-low, nul-low, nul-left, bul-low, bul-left, end-left}
use Rattle.router_invariant.proofs.Halving.{old-kept, part-other, part-here, halves-kept, directed_kept}

dir1_low : (first o : Bool) → dir1 first o < 4
dir1_low true o = omega arith
dir1_low false false = omega arith
dir1_low false true = omega arith

dir2_low : (first o : Bool) → dir2 first o < 4
dir2_low true false = omega arith
dir2_low true true = omega arith
dir2_low false o = omega arith

-- the corner's moves to the first half's end and to the second half's start
abbrev pub move_to : Bool → Bool → Shape → Move
move_to true o S = across_move o S
move_to false o S = down_move o S

pub first-dir : (first o : Bool) (S : Shape) → S.top < last → move_d (dir1 first o) (finish (move_to first o S)) ≡ opp (move_to first o S)
unfolding move_d across_move down_move
first-dir true false S l = ap (λ k. bwd (hor S.top k)) (let e : suc (S.a S.top) - 1 ≡ S.a S.top = omega arith in e)
first-dir true true S l = ap (λ k. bwd (hor (last - S.top) k)) (let e : suc (S.a S.top) - 1 ≡ S.a S.top = omega arith in e)
first-dir false false S l = ap (λ k. bwd (ver k (S.a S.top))) (let e : suc S.top - 1 ≡ S.top = omega arith in e)
first-dir false true S l = refl

pub second-dir : (first o : Bool) (S : Shape) → S.top < last → move_d (dir2 first o) (turn o (UL S)) ≡ move_to (not first) o S
unfolding move_d across_move down_move
second-dir true false S l = refl
second-dir true true S l = ap (λ k. bwd (ver k (S.a S.top))) (let e : last - S.top - 1 ≡ last - suc S.top = omega arith in e)
second-dir false false S l = refl
second-dir false true S l = refl

differ : (b o : Bool) (S : Shape) → same_link (edge (move_to b o S)) (edge (move_to (not b) o S)) ≡ false
unfolding across_move down_move
differ true false S = refl
differ true true S = refl
differ false false S = refl
differ false true S = refl

module _ (s0 : State) (R : Run) (Q : Ready s0 R) (i : ℕ) (li : i < R.n) (few : R.n < pair_limit) (room : R.next < last_pair) (first : Bool)
    (wide : (shape_r R).a R.top < (shape_r R).b R.top) (deep : R.top < R.bottom) where
  abbrev o : Bool
  o = R.up

  abbrev T : Shape
  T = shape_r R

  abbrev D : Run
  D = divide_run R i first

  abbrev pub halved : ℕ → Item
  halved = row_r D

  abbrev after : State
  after = state_of D.la D.lb D.ids D.side D.vert D.half D.s1 D.s2 D.d1 D.d2 (suc R.n) (suc (suc R.next))
      (narrow T) o

  low : T.top < last
  low = omega (arith, bul-low s0 R Q deep)

  id-low : get_or R.ids i 0 < R.next
  id-low = Q.holds.inv.fine.ids i li

  -- the two neighbours of the corner, by the move to them
  to_start : (b : Bool) → start (move_to b o T) ≡ turn o (UL T)
  to_start true = across_start o T
  to_start false = down_start o T low

  to_word : (b : Bool) → vtx (end_w b R) ≡ finish (move_to b o T)
  to_word true = nul-is R (shaped s0 R Q) wide ∙ sym (across_finish o T)
  to_word false = bul-is R (shaped s0 R Q) deep ∙ sym (down_finish o T)

  to-left : (b : Bool) → left_of T o (finish (move_to b o T)) ≡ true
  to-left true = ap (left_of T o) (across_finish o T) ∙ nul-left s0 R Q wide
  to-left false = ap (left_of T o) (down_finish o T) ∙ bul-left s0 R Q deep

  to_low : (b : Bool) → (vtx (end_w b R)).line ≤ last
  to_low true = subst (λ v. v.line ≤ last) (sym (nul-is R (shaped s0 R Q) wide)) (turn_low o (NUL T) (nul-low s0 R Q))
  to_low false = subst (λ v. v.line ≤ last) (sym (bul-is R (shaped s0 R Q) deep)) (turn_low o (BUL T) (bul-low s0 R Q deep))

  pub half-one : halved i ≡ item R.next (row_r R i).a (vtx (end_w first R))
  half-one = rw (
    get_or-set_other R.la R.n i (end_w (not first) R) 0 (λ e. omega arith),
    get_or-set_other (set R.lb i (end_w first R)) R.n i (get_or R.lb i 0) 0 (λ e. omega arith),
    get_or-set_other (set R.ids i R.next) R.n i (R.next + 1) 0 (λ e. omega arith),
    get_or-set_same R.lb i (end_w first R) 0 (omega (arith, Q.sized.lb)),
    get_or-set_same R.ids i R.next 0 (omega (arith, Q.sized.ids)),
  )

  pub half-two : halved R.n ≡ item (R.next + 1) (vtx (end_w (not first) R)) (row_r R i).b
  half-two = rw (
    get_or-set_same R.la R.n (end_w (not first) R) 0 (omega (arith, Q.sized.la)),
    get_or-set_same (set R.lb i (end_w first R)) R.n (get_or R.lb i 0) 0 (omega (arith, Q.sized.lb, length-set R.lb i (end_w first R))),
    get_or-set_same (set R.ids i R.next) R.n (R.next + 1) 0 (omega (arith, Q.sized.ids, length-set R.ids i R.next)),
  )

  pub rest-kept : (k : ℕ) → k < R.n → (k ≡ i → ⊥) → halved k ≡ row_r R k
  rest-kept k l n = rw (
    get_or-set_other R.la R.n k (end_w (not first) R) 0 (λ e. omega arith),
    get_or-set_other (set R.lb i (end_w first R)) R.n k (get_or R.lb i 0) 0 (λ e. omega arith),
    get_or-set_other (set R.ids i R.next) R.n k (R.next + 1) 0 (λ e. omega arith),
    get_or-set_other R.lb i k (end_w first R) 0 n,
    get_or-set_other R.ids i k R.next 0 n,
  )

  frame : Framed after
  frame k l = elim (eq_case k R.n) [
    | inl e ↦ subst (λ j. ((halved j).a.line ≤ last) × ((halved j).b.line ≤ last)) (sym e.2)
        (subst (λ (x : Item). (x.a.line ≤ last) × (x.b.line ≤ last)) (sym half-two) (to_low (not first), (Q.holds.inv.frame i li).1))
    | inr e ↦ elim (eq_case k i) [
      | inl f ↦ subst (λ j. ((halved j).a.line ≤ last) × ((halved j).b.line ≤ last)) (sym f.2)
          (subst (λ (x : Item). (x.a.line ≤ last) × (x.b.line ≤ last)) (sym half-one) ((Q.holds.inv.frame i li).0, to_low first))
      | inr f ↦ let b : k < R.n = omega (arith, e.2) in
          subst (λ (x : Item). (x.a.line ≤ last) × (x.b.line ≤ last)) (sym (rest-kept k b f.2)) (Q.holds.inv.frame k b)
    ]
  ]

  noted_here : partD D.side D.vert D.half D.s1 D.s2 D.d1 D.d2 (get_or R.ids i 0)
      ≡ parted (halved i) (opp (move_to first o T)) (move_to (not first) o T) (halved R.n)
  noted_here =
      part-here R.side R.vert R.half R.s1 R.s2 R.d1 R.d2 (get_or R.ids i 0) R.next (get_or R.la i 0) (end_w first R)
      (end_w (not first) R) (get_or R.lb i 0)
      (dir1 first o) (dir2 first o) Q.holds.halves (omega (arith, id-low, Q.sized.half)) (omega (arith, id-low, Q.sized.d1))
      (omega (arith, id-low, Q.sized.d2))
      (omega (arith, Q.sized.s1)) (omega (arith, Q.sized.s2)) (omega (arith, id-low)) room
      ∙ ap (λ m. parted (item R.next (vtx (get_or R.la i 0)) (vtx (end_w first R))) m (move_d (dir2 first o) (finish m))
      (item (R.next + 1) (vtx (end_w (not first) R)) (vtx (get_or R.lb i 0)))) one_way
      ∙ ap (λ m. parted (item R.next (vtx (get_or R.la i 0)) (vtx (end_w first R))) (opp (move_to first o T)) m
      (item (R.next + 1) (vtx (end_w (not first) R)) (vtx (get_or R.lb i 0)))) other_way
      ∙ ap₂ (λ x y. parted x (opp (move_to first o T)) (move_to (not first) o T) y) (sym half-one) (sym half-two)
    where
      one_way : move_d (dir1 first o) (vtx (end_w first R)) ≡ opp (move_to first o T)
      one_way = ap (move_d (dir1 first o)) (to_word first) ∙ first-dir first o T low

      other_way : move_d (dir2 first o) (finish (opp (move_to first o T))) ≡ move_to (not first) o T
      other_way = ap (move_d (dir2 first o)) (finish_opp (move_to first o T) ∙ to_start first) ∙ second-dir first o T low

  pub divide-holds : Good (narrow T) (pairs_of (suc R.n) (λ k. turn_i o (halved k))) → Holds s0 (divide_run R i first)
  divide-holds good = record {
    inv = rw (add-one R.n, add-two R.next) (inv-narrow s0 D.la D.lb D.ids _ _ _ _ _ _ _ _ _ o R.lo R.hi R.top R.bottom
        (shaped s0 R Q) Q.sized.lo
        (joint-inv s0 (state_r R) after T (narrow T) o Q.holds.inv (narrow_less T (shaped s0 R Q) wide) (top-low s0 R Q)
        (shuts_of (state_r R) after T (narrow T) o (λ z. refl)) good frame
        i (move_to first o T) (move_to (not first) o T) refl refl li rest-kept (half-one ∙ ap (item R.next (row_r R i).a) (to_word first))
        (half-two ∙ ap₂ (λ k v. item k v (row_r R i).b) (add-one R.next) (to_word (not first)))
        (to_start first) (to_start (not first)) (to-left first) (to-left (not first)) (differ first o T) (end-left s0 R Q i li).0
        (end-left s0 R Q i li).1
        noted_here
        (part-other R.side R.vert R.half R.s1 R.s2 R.d1 R.d2 (get_or R.ids i 0) R.next (get_or R.la i 0) (end_w first R)
        (end_w (not first) R) (get_or R.lb i 0)
        (dir1 first o) (dir2 first o) Q.holds.halves)
        (λ k v. refl)));
    halves = halves-kept R.side R.vert R.half R.s1 R.s2 R.d1 R.d2 (get_or R.ids i 0) R.next 0 0 0 0 0 0
        Q.holds.halves id-low (omega (arith, id-low, Q.sized.half));
    first = directed_kept R.d1 (get_or R.ids i 0) (dir1 first o) Q.holds.first (dir1_low first o);
    second = directed_kept R.d2 (get_or R.ids i 0) (dir2 first o) Q.holds.second (dir2_low first o);
    asked = omega (arith, Q.holds.asked);
    made = λ k l. Q.holds.made k l ∙ ap₂ (λ u v. item k (vtx u) (vtx v)) (sym (kept-old R.s1 _ _ k l)) (sym (kept-old R.s2 _ _ k l));
  }
    where
      add-two : (m : ℕ) → m + 2 ≡ suc (suc m)
      add-two m = omega arith

      kept-old : (l : List ℕ) (p q k : ℕ) → k < s0.n → get_or (set (set l R.next p) (R.next + 1) q) k 0 ≡ get_or l k 0
      kept-old l p q k b = old-kept R.side R.vert R.half R.s1 R.s2 R.d1 R.d2 0 R.next 0 0 0 0 0 0 Q.holds.halves l p q k
          (omega (arith, Q.holds.asked))

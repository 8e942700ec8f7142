-- A good problem has a routing: drop the trivial pairs, turn the problem if need be, cut the corner, and go on.
-- Assumes a good problem, and nothing else.
use Rattle.std.specs.Prelude.{◌≡◌, refl, true, List, [], ◌∷◌, ℕ, zero, suc, ◌+◌, ◌-◌, ◌≤◌, ◌<◌}
use Rattle.std.proofs.Common.{ap, sym, subst, inl, inr, arith, eq-eqb}
use Rattle.count.specs.Truth.{one}
use Rattle.count.specs.TruthLaws.{clash, and_true, and_yes, le_or_lt}
use Rattle.board.specs.declared.Vertex.{Vertex}
use Rattle.net.specs.declared.Pair.{Pair}
use Rattle.net.specs.Terminals.{same}
use Rattle.corner.specs.Pairs.{All, standing, Proper, Take}
use Rattle.net.specs.Same.{same_self}
use Rattle.corner.proofs.Taking.{all_take, standing_take, take_swap, pick, proper_take}
use Rattle.corner.specs.Shape.{Shape, present, Here, vertices, Good, start, finish, Top, UL, NUL, BUL, top_cut, left_cut, narrow, lower, Less}
use Rattle.corner.proofs.Presence.{present_yes, top_in}
use Rattle.corner.proofs.Delete.{narrow_less, fewer}
use Rattle.corner.proofs.TopLine.{full-top, full-below}
use Rattle.corner.proofs.Keep.{cut_case}
use Rattle.corner.proofs.Steps.{split_choice, helper-good, split_good, divide-nul, divide-cut-pair}
use Rattle.corner.proofs.Move.{corner_even, move-one, right_edge, down_edge}
use Rattle.corner.specs.Trails.{joined, total, Routed, right_link, down_link}
use Rattle.corner.proofs.Lift.{lift_move, lift-split, lift-helper, lift-divide}
use Rattle.corner.proofs.Drop.{drop, drop_good, drop_lift}
use Rattle.corner.proofs.Flip.{flip, flips, flip_top, flip_vertices, flip_good, flip_lift, flip_proper}

-- the recursive call, for problems with one vertex less
abbrev pub Solve : Shape → Type 0
Solve S = (S' : Shape) (ps' : List Pair) → Good S' ps' → vertices S ≡ vertices S' + 1 → Routed (joined S') ps'

-- two edges at the corner
module _ (S : Shape) (ps : List Pair) (G : Good S ps) (T : Top S) (wide : start S < finish S) (deep : S.top < S.bottom) (pr : Proper ps)
    (solve : Solve S) where
  right_there : joined S (right_link S) ≡ true
  right_there = and_yes _ _ (present_yes S S.top (start S)
      (record { low = omega arith; high = omega arith; from = omega arith; to = omega arith }))
      (present_yes S S.top (suc (start S)) (record { low = omega arith; high = omega arith; from = omega arith; to = wide }))

  down-there : joined S (down_link S) ≡ true
  down-there = let t = T (suc S.top) (omega arith, deep) in
      and_yes _ _ (present_yes S S.top (start S) (record { low = omega arith; high = omega arith; from = omega arith; to = omega arith }))
      (present_yes S (suc S.top) (start S) (record { low = omega arith; high = deep; from = t.0; to = omega arith }))

  less : Less S (narrow S) (UL S)
  less = narrow_less S G.shaped wide

  smaller : (ps' : List Pair) → Good (narrow S) ps' → Routed (joined (narrow S)) ps'
  smaller ps' G' = solve (narrow S) ps' G' (fewer S (narrow S) G.shaped less)

  split-pairs : standing (same (UL S)) ps ≡ 2 → (s t : Vertex) (rest1 rest : List Pair) → Take (UL S) s ps rest1 → Take (UL S) t rest1 rest
      → Routed (joined S) ps
  split-pairs z s t rest1 rest t1 t2 =
      let p1 = proper_take (UL S) s t1 pr in let p2 = proper_take (UL S) t t2 p1.1 in
      let a1 = all_take (Here S) (UL S) s t1 G.stand in let a2 = all_take (Here S) (UL S) t t2 a1.2 in
      elim (split_choice S s t a1.1 a2.1 p1.0 p2.0) [
        | inl c ↦ lift-split S (narrow S) less right_there down-there ps s t rest1 rest t1 t2
            (smaller _ (split_good S ps G T wide deep s t rest1 rest t1 t2 pr z c.0 c.1))
        | inr c ↦
            let w = take_swap (UL S) s (UL S) t t1 t2 in
            lift-split S (narrow S) less right_there down-there ps t s w.0 rest w.1 w.2
            (smaller _ (split_good S ps G T wide deep t s w.0 rest w.1 w.2 pr z c.0 c.1))
      ]

  split-first : standing (same (UL S)) ps ≡ 2 → (s : Vertex) (rest1 : List Pair) → Take (UL S) s ps rest1 → Routed (joined S) ps
  split-first z s rest1 t1 =
      let k = pick (UL S) rest1 (omega (
        arith,
        standing_take (same (UL S)) (UL S) s t1,
        ap one (same_self (UL S)),
        ap one (proper_take (UL S) s t1 pr).0,
      )) in
      split-pairs z s k.0 rest1 k.1 t1 k.2

  split : standing (same (UL S)) ps ≡ 2 → Routed (joined S) ps
  split z = let k = pick (UL S) ps (omega arith) in split-first z k.0 k.1 k.2

  empty : standing (same (UL S)) ps ≡ 0 → Routed (joined S) ps
  empty z = elim (cut_case S ps G (left_cut S)) [
    | inl c ↦
        let d = divide-cut-pair S ps G T wide deep z c in
        lift-divide S (narrow S) less right_there down-there ps d.0 d.1 d.2 d.3 (smaller _ d.4)
    | inr c ↦ elim (cut_case S ps G (top_cut S)) [
      | inl r ↦
          let k = pick (NUL S) ps (full-top S ps G T wide deep z r).1 in
          lift-divide S (narrow S) less right_there down-there ps (NUL S) k.0 k.1 k.2
          (smaller _ (divide-nul S ps G T wide deep k.0 k.1 k.2 z (full-below S ps G T wide deep z r k.0 k.1 k.2) c))
      | inr r ↦ lift-helper S (narrow S) less right_there down-there ps (smaller _ (helper-good S ps G T wide deep z r c))
    ]
  ]

  pub cut-two : Routed (joined S) ps
  cut-two =
      let k = corner_even S ps G in
      let p1 = (and_true (present S S.top (start S)) (present S S.top (suc (start S))) right_there).1 in
      let p2 = (and_true (present S S.top (start S)) (present S (suc S.top) (start S)) down-there).1 in
      elim (le_or_lt (standing (same (UL S)) ps) 0) [
        | inl h ↦ empty (omega arith)
        | inr h ↦ split (omega (arith, k.1, k.2, ap one p1, ap one p2))
      ]

-- one vertex: no pair is left
pub single_none : (S : Shape) → start S ≡ finish S → S.top ≡ S.bottom → (ps : List Pair) → All (Here S) ps → Proper ps → ps ≡ []
single_none S w d [] a pr = refl
single_none S w d (p ∷ ps) a pr = absurd (
    let e1 : p.first.line ≡ S.top = omega (arith, a.0.low, a.0.high) in
    let e2 : p.second.line ≡ S.top = omega (arith, a.1.low, a.1.high) in
    let f1 : p.first.column ≡ p.second.column = omega
    (arith, a.0.from, a.0.to, a.1.from, a.1.to, ap S.a e1, ap S.b e1, ap S.a e2, ap S.b e2) in
    let y : same p.first p.second ≡ true = and_yes _ _ (eq-eqb p.first.line p.second.line (omega arith))
    (eq-eqb p.first.column p.second.column f1) in
    clash y pr.0)

nothing_routed : (S : Shape) → Routed (joined S) []
unfolding total
nothing_routed S = record { trails = tt; once = λ e. omega arith }

pub cut : (S : Shape) (ps : List Pair) → Good S ps → Top S → Proper ps → Solve S → Routed (joined S) ps
cut S ps G T pr solve =
    let o = G.shaped.order in
    let f = G.shaped.full S.top (omega arith, o) in
    elim (le_or_lt (finish S) (start S)) [
      | inl w ↦ elim (le_or_lt S.bottom S.top) [
        | inl d ↦ subst (λ qs. Routed (joined S) qs) (sym (single_none S (omega arith) (omega arith) ps G.stand pr)) (nothing_routed S)
        | inr d ↦
            let O = down_edge S G.shaped T (omega arith) d in
            let m = move-one S (lower S) (BUL S) (top_cut S) O ps G pr in
            let t = T (suc S.top) (omega arith, d) in
            lift_move S (lower S) O.less ps m.1 (down_link S) m.0 m.2 refl
            (and_yes _ _ O.less.was (present_yes S (suc S.top) (start S)
            (record { low = omega arith; high = d; from = t.0; to = omega arith })))
            (solve (lower S) _ m.3 (fewer S (lower S) G.shaped O.less))
      ]
      | inr w ↦ elim (le_or_lt S.bottom S.top) [
        | inl d ↦
            let O = right_edge S G.shaped T w (omega arith) in
            let m = move-one S (narrow S) (NUL S) (left_cut S) O ps G pr in
            lift_move S (narrow S) O.less ps m.1 (right_link S) m.0 m.2 refl
            (and_yes _ _ O.less.was (present_yes S S.top (suc (start S)) (record { low = omega arith; high = o; from = omega arith; to = w })))
            (solve (narrow S) _ m.3 (fewer S (narrow S) G.shaped O.less))
        | inr d ↦ cut-two S ps G T w d pr solve
      ]
    ]

-- the top line is not wider than the bottom line, or so it is upside down
oriented : (S : Shape) (ps : List Pair) → Good S ps → Proper ps → Solve S → Routed (joined S) ps
oriented S ps G pr solve = elim (le_or_lt (finish S - start S) (S.b S.bottom - S.a S.bottom)) [
  | inl h ↦ cut S ps G (top_in S G.shaped h) pr solve
  | inr h ↦ flip_lift S ps G (cut (flip S) (flips ps) (flip_good S ps G) (flip_top S G.shaped h) (flip_proper S G.shaped ps G.stand pr)
      (λ S' ps' G' e. solve S' ps' G' (omega (arith, flip_vertices S G.shaped))))
]

pub route : (n : ℕ) (S : Shape) (ps : List Pair) → Good S ps → vertices S ≤ n → Routed (joined S) ps
route zero S ps G h = let d = drop S ps in
    drop_lift S ps d (oriented S d.rest (drop_good S ps G d) d.proper (λ S' ps' G' e. absurd (omega arith)))
route (suc n) S ps G h = let d = drop S ps in
    drop_lift S ps d (oriented S d.rest (drop_good S ps G d) d.proper (λ S' ps' G' e. route n S' ps' G' (omega arith)))

-- the theorem on shapes
pub good_routed : (S : Shape) (ps : List Pair) → Good S ps → Routed (joined S) ps
good_routed S ps G = route (vertices S) S ps G (omega arith)

-- The nets of an array of places have room exactly where they could all be added to the bare board, on a board within the limits (`room_addable`);
-- an array that counts the terminals of all vertices tells it (`counted_room`).
-- Assumes nothing.
use Rattle.std.specs.Prelude.{◌≡◌, Bool, true, not, ◌&&◌, ◌⊎◌, ℕ, suc, ◌+◌, ◌≤◌, ◌<◌, ltb, length, None, Some}
use Rattle.std.proofs.Math.Path.{refl}
use Rattle.std.specs.List.{list_all}
use mathlib.Core.List.{List, [], ◌∷◌}
use Rattle.std.proofs.Math.Logic.{inl, inr}
use Rattle.std.proofs.Common.{arith}
use borrow.Author.Tests.{lt-ltb, ltb-true, le-leb, leb-true, not-true}
use Rattle.count.specs.TruthLaws.{bool, clash, bool_eq, and_true, and_yes}
use Rattle.board.specs.Board.{Within}
use Rattle.board.specs.Degree.{vertex?, pins}
use Rattle.board.specs.Tests.{vertex_exact}
use Rattle.board.specs.declared.Vertex.{Vertex}
use Rattle.board_block.specs.Block.{Block, pins_of}
use Rattle.board_block.proofs.Pins.{pins_below}
use Rattle.board_convex.proofs.Places.{vertex_in_row}
use Rattle.net.specs.Terminals.{same, terminals}
use Rattle.net.specs.Same.{same_exact}
use Rattle.net.specs.View.{Held, held_then, pairs_of}
use Rattle.net.specs.declared.Pair.{Pair}
use Rattle.net_terminals.specs.Counts.{Counts}
use Rattle.session_rules.specs.Sound.{addable?, kept_fine?, all_fine?}
use Rattle.session_names.specs.Names.{Stored, kept_in, kept_of}
use Rattle.session_laws.proofs.Rising.{rising_from}
use Rattle.session_laws.specs.Fine.{Good, AllGood}
use Rattle.session_laws.proofs.FineLaws.{first_there, second_there}
use Rattle.session_laws.proofs.Addable.{fine_of, fine_addable}
use Rattle.net_places.specs.Places.{net, held_net, nets_from, nets_of}
use Rattle.net_places.proofs.NetsLaws.{pairs-of, rising_of}
use Rattle.session_sound.specs.Room.{counted_at, room_at, held_room, places_room, roomy}

-- ── pins are at vertices alone ──
pinned : (b : Block) (v : Vertex) → 1 ≤ pins_of b v → vertex? b.board v ≡ true
unfolding pins
pinned b v h = elim (bool (vertex? b.board v)) [
  | inl e ↦ e
  | inr e ↦ absurd (let z : pins_of b v ≤ 0 = rw e at (pins_below b v) in omega arith)
]

-- ── an array that counts the terminals ──
room_counted : (b : Block) (all : List Pair) (a : List ℕ) → Counts all a → (v : Vertex) → room_at b (counted_at a v) v ≡ room_at b (terminals all v) v
unfolding room_at
room_counted b all a C v = elim (bool (ltb v.line 32)) [
  | inl p ↦ elim (bool (ltb v.column 32)) [
    | inl q ↦ rw (C.here v.line v.column (ltb-true v.line 32 p) (ltb-true v.column 32 q)) refl
    | inr q ↦ rw (p, q) refl
  ]
  | inr p ↦ rw p refl
]

counted_room : (b : Block) (all : List Pair) (a : List ℕ) → Counts all a → (h : Held) → held_room b (counted_at a) h ≡ held_room b (terminals all) h
counted_room b all a C None = refl
counted_room b all a C (Some p) = rw (room_counted b all a C p.first, room_counted b all a C p.second) refl

pub counted_all : (b : Block) (all : List Pair) (a : List ℕ) → Counts all a → (hs : List Held)
    → list_all (held_room b (counted_at a)) hs ≡ places_room b (terminals all) hs
unfolding places_room
counted_all b all a C [] = refl
counted_all b all a C (h ∷ hs) = rw (counted_room b all a C h, counted_all b all a C hs) refl

-- ── where all terminals are those of these pairs ──
module _ (b : Block) (W : Within b.board) (all : List Pair) where
  -- DEFINITION: v has pins for all terminals there
  abbrev room : Vertex → Bool
  room v = room_at b (terminals all v) v

  -- ── one terminal ──
  in_frame : (v : Vertex) → vertex? b.board v ≡ true → (v.line < 32) × (v.column < 32)
  in_frame v e =
      let k = vertex_in_row b.board v ((vertex_exact b.board v).0 e) in
      let m = k.1 in
      let f = W.fits k.0 m.row in
      (omega (arith, W.few, m.row, m.high), omega (arith, m.to))

  room-yes : (v : Vertex) → vertex? b.board v ≡ true → terminals all v ≤ pins_of b v → room v ≡ true
  unfolding room_at
  room-yes v e h =
      let f = in_frame v e in rw (lt-ltb v.line 32 f.0, lt-ltb v.column 32 f.1) (le-leb (terminals all v) (pins_of b v) h)

  room_of : (v : Vertex) → room v ≡ true → terminals all v ≤ pins_of b v
  unfolding room_at
  room_of v e = elim (bool (ltb v.line 32)) [
    | inl p ↦ elim (bool (ltb v.column 32)) [
      | inl q ↦ leb-true (terminals all v) (pins_of b v) (rw (p, q) at e)
      | inr q ↦ absurd (clash e (rw (p, q) refl))
    ]
    | inr p ↦ absurd (clash e (rw p refl))
  ]

  -- ── what has room is good, and leaves no vertex too full ──
  -- DEFINITION: the terminals of these pairs are among those counted
  abbrev Among : List Pair → Type 0
  Among ps = (v : Vertex) → terminals ps v ≤ terminals all v

  good-held : (k : ℕ) (p : Pair) (ps : List Pair) → 1 ≤ k → k ≤ 64 → Among (p ∷ ps) → held_room b (terminals all) (Some p) ≡ true → Good b (net k p)
  unfolding terminals
  good-held k p ps low high m e =
      let t = and_true (not (same p.first p.second)) (room p.first && room p.second) e in
      let u = and_true (room p.first) (room p.second) t.1 in
      record {
        low = low;
        high = high;
        first = pinned b p.first (omega (arith, room_of p.first u.0, m p.first, first_there (net k p)));
        second = pinned b p.second (omega (arith, room_of p.second u.1, m p.second, second_there (net k p)));
        apart = not-true (same p.first p.second) t.0;
      }

  good-next : (k : ℕ) (h : Held) (ps : List Held) → 1 ≤ k → k ≤ 64 → Among (held_then h (pairs_of ps)) → held_room b (terminals all) h ≡ true
      → (Among (pairs_of ps) → AllGood b (nets_from (suc k) ps)) → AllGood b (held_net k h (nets_from (suc k) ps))
  unfolding terminals
  good-next k None ps low high m e f = f m
  good-next k (Some p) ps low high m e f = (good-held k p (pairs_of ps) low high m e, f (λ v. omega (arith, m v)))

  all-good : (k : ℕ) (ps : List Held) → 1 ≤ k → k + length ps ≤ 65 → Among (pairs_of ps) → places_room b (terminals all) ps ≡ true
      → AllGood b (nets_from k ps)
  unfolding places_room pairs_of nets_from
  all-good k [] low high m e = tt
  all-good k (p ∷ ps) low high m e =
      let t = and_true (held_room b (terminals all) p) (places_room b (terminals all) ps) e in
      good-next k p ps low (omega arith) m t.0 (λ n. all-good (suc k) ps (omega arith) (omega arith) n t.1)

  -- DEFINITION: none of these terminals stands at v, or v has pins for all that are counted there
  abbrev RoomFor : List Pair → Vertex → Type 0
  RoomFor ps v = (terminals ps v ≡ 0) ⊎ (terminals all v ≤ pins_of b v)

  room-held : (h : Held) (ps : List Pair) (v : Vertex) → held_room b (terminals all) h ≡ true → RoomFor ps v → RoomFor (held_then h ps) v
  unfolding terminals
  room-held None ps v e r = r
  room-held (Some p) ps v e r =
      let t = and_true (not (same p.first p.second)) (room p.first && room p.second) e in
      let u = and_true (room p.first) (room p.second) t.1 in
      elim (bool (same p.first v)) [
        | inl f ↦ inr (rw (← (same_exact p.first v).0 f) (room_of p.first u.0))
        | inr f ↦ elim (bool (same p.second v)) [
          | inl g ↦ inr (rw (← (same_exact p.second v).0 g) (room_of p.second u.1))
          | inr g ↦ elim r [
            | inl z ↦ inl (rw (f, g) (omega arith))
            | inr z ↦ inr z
          ]
        ]
      ]

  all_room : (ps : List Held) (v : Vertex) → places_room b (terminals all) ps ≡ true → RoomFor (pairs_of ps) v
  unfolding places_room pairs_of terminals
  all_room [] v e = inl refl
  all_room (p ∷ ps) v e =
      let t = and_true (held_room b (terminals all) p) (places_room b (terminals all) ps) e in
      room-held p (pairs_of ps) v t.0 (all_room ps v t.1)

  -- ── good nets that leave no vertex too full have room ──
  module _ (enough : (v : Vertex) → terminals all v ≤ pins_of b v) where
    held-has : (k : ℕ) (p : Pair) → Good b (net k p) → held_room b (terminals all) (Some p) ≡ true
    held-has k p g = rw (
      g.apart,
      room-yes p.first g.first (enough p.first),
      room-yes p.second g.second (enough p.second),
    ) refl

    next-has : (k : ℕ) (h : Held) (ps : List Held) → AllGood b (held_net k h (nets_from (suc k) ps))
        → (AllGood b (nets_from (suc k) ps) → places_room b (terminals all) ps ≡ true)
        → held_room b (terminals all) h && places_room b (terminals all) ps ≡ true
    next-has k None ps g f = f g
    next-has k (Some p) ps g f = and_yes (held_room b (terminals all) (Some p)) (places_room b (terminals all) ps) (held-has k p g.0) (f g.1)

    all-has : (k : ℕ) (ps : List Held) → AllGood b (nets_from k ps) → places_room b (terminals all) ps ≡ true
    unfolding places_room nets_from
    all-has k [] g = refl
    all-has k (p ∷ ps) g = next-has k p ps g (all-has (suc k) ps)

-- ── the nets of an array ──
pub room_addable : (b : Block) (nets : List Held) → Within b.board → length nets ≡ 64 → roomy b nets ≡ addable? b [] (nets_of nets)
unfolding nets_of
room_addable b nets W l =
    let up = rising_from (nets_of nets) (rising_of nets) in
    let all = pairs_of nets in
    bool_eq (roomy b nets) (addable? b [] (nets_of nets))
    (λ e. fine_addable b (nets_of nets) (record {
      rising = up;
      good = all-good b W all 1 nets (omega arith) (omega arith) (λ v. omega arith) e;
      room = λ v. rw (pairs-of nets) (elim (all_room b W all nets v e) [ inl z ↦ omega arith | inr z ↦ z ]);
    }))
    (λ e. let f = fine_of b (nets_of nets) up e in
    all-has b W all (λ v. rw (← pairs-of nets) (f.room v)) 1 nets f.good)

-- ── what is kept under the names ──
pub fine_all : (b : Block) (ls : List Stored) → list_all (λ l. kept_fine? b (kept_in l)) ls ≡ all_fine? b (kept_of ls)
unfolding all_fine?
fine_all b [] = refl
fine_all b (l ∷ ls) = rw (fine_all b ls) refl

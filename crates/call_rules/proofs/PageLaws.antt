-- The page of a board and a set of used edges, character by character: all that stands on it can be read off, and nothing but the set plays a part.
-- Assumes nothing; where edges of the board are read off, that the board is within the limits.
use Rattle.std.specs.Prelude.{◌≡◌, Bool, true, false, ◌⊎◌, ◌↔◌, get_or}
use Rattle.std.proofs.Math.Path.{refl, ap}
use Rattle.std.proofs.Common.{sym, ◌∙◌, inl, inr, get_or-append-add, eq-eqb, ne_eqb, lt-ltb, le-ltb, ltb-true}
use mathlib.Core.List.{List, [], ◌∷◌, ◌++◌, map, flat_map}
use Prim.Native.Nat.{ℕ, zero, suc, ◌+◌, ◌*◌, ◌/◌, ◌%◌, ◌≤◌, ◌<◌}
use native.Mathlib.Omega.{arith}
use Rattle.std.proofs.Math.ListN.{length, length-append, get_or-append}
use Rattle.count.specs.TruthLaws.{bool_eq, eq_or_ne}
use Rattle.count.specs.Lists.{rising, up_to, length-rising, getD-rising, map_rising}
use Rattle.board.specs.Board.{
  Board,
  Within,
  height,
  at,
  Edge,
  Corner,
  top_left,
  top_right,
  bottom_left,
  bottom_right,
  Side,
  top_side,
  bottom_side,
  left_side,
  right_side,
  IsVertex,
  IsEdge,
}
use Rattle.board.specs.Path.{along}
use Rattle.board.specs.Degree.{vertex?}
use Rattle.board.specs.Tests.{vertex_exact}
use Rattle.board.specs.declared.Vertex.{Vertex}
use Rattle.board.specs.declared.Direction.TheVariants.{Right, Down}
use Rattle.routing_rules.specs.Routing.{uses}
use Rattle.words.specs.Bytes.{words_in}
use Rattle.session_rules.specs.Refusal.{refusal}
use Rattle.session_rules.specs.Session.{Session}
use Rattle.call_rules.specs.Result.{Result, no}
use Rattle.call_rules.specs.Alike.{SameEdges}
use Rattle.call_rules.specs.Judge.{if_sound, if_even}
use Rattle.call_rules.specs.Page.{
  plus,
  dash,
  bar,
  space,
  line_feed,
  sign_if,
  even?,
  on_line,
  below_line,
  character_at,
  text_line,
  text_lines,
  page,
  used_in,
  page_room,
  if_room,
  judged_page,
  draw_words,
  draw_bytes,
}
use Rattle.call_rules.specs.ReadOff.{read_at, text_line_of, character_of, edge_sign, ReadsOff}

-- ── texts of 64 bytes, one behind the other ──
module _ (f : ℕ → List ℕ) (each : (k : ℕ) → length (f k) ≡ 64) where
  pieces-length : (i n : ℕ) → length (flat_map f (rising i n)) ≡ 64 * n
  unfolding flat_map
  pieces-length i zero = refl
  pieces-length i (suc n) = omega (arith, length-append (f i) (flat_map f (rising (suc i) n)), each i, pieces-length (suc i) n)

  pieces-at : (i n y x : ℕ) → y < n → x < 64 → get_or (flat_map f (rising i n)) (64 * y + x) 0 ≡ get_or (f (i + y)) x 0
  unfolding flat_map
  pieces-at i zero y x h k = absurd (omega arith)
  pieces-at i (suc n) zero x h k =
      let e : 64 * 0 + x ≡ x = omega arith in let z : i + 0 ≡ i = omega arith in
      rw (e, z) (get_or-append (f i) (flat_map f (rising (suc i) n)) 0 x (omega (arith, each i)))
  pieces-at i (suc n) (suc y) x h k =
      let e : 64 * suc y + x ≡ length (f i) + (64 * y + x) = omega (arith, each i) in let z : i + suc y ≡ suc i + y = omega arith in
      rw (e, z) (get_or-append-add (f i) (flat_map f (rising (suc i) n)) (64 * y + x) 0 ∙ pieces-at (suc i) n y x (omega arith) k)

pieces_same : (f g : ℕ → List ℕ) (i n : ℕ) → ((k : ℕ) → i ≤ k → k < i + n → f k ≡ g k) → flat_map f (rising i n) ≡ flat_map g (rising i n)
unfolding flat_map
pieces_same f g i zero h = refl
pieces_same f g i (suc n) h =
    rw (h i (omega arith) (omega arith), pieces_same f g (suc i) n (λ k p q. h k (omega arith) (omega arith))) refl

-- ── a page, character by character ──
module _ (b : Board) (used : Edge → Bool) where
  line-64 : (y : ℕ) → length (text_line b used y) ≡ 64
  unfolding text_line
  line-64 y = omega (arith, length-append (map (character_at b used y) (up_to 63)) (line_feed ∷ []), length-rising (character_at b used y) 0 63)

  pub page-length : length (page b used) ≡ 64 * (2 * height b + 1)
  unfolding page
  page-length = omega (arith, pieces-length (text_line b used) line-64 0 (text_lines b))

  line_at : (y x : ℕ) → y < 2 * height b + 1 → x < 64 → read_at (page b used) y x ≡ get_or (text_line b used y) x 0
  unfolding page
  line_at y x h k = let e : 0 + y ≡ y = omega arith in rw e at (pieces-at (text_line b used) line-64 0 (text_lines b) y x (omega arith) k)

  pub page-at : (y x : ℕ) → y < 2 * height b + 1 → x < 63 → read_at (page b used) y x ≡ character_at b used y x
  unfolding text_line
  page-at y x h k =
      let e : 0 + x ≡ x = omega arith in
      line_at y x h (omega arith)
      ∙ (get_or-append (map (character_at b used y) (up_to 63)) (line_feed ∷ []) 0 x (omega (arith, length-rising (character_at b used y) 0 63))
      ∙ rw e at (getD-rising (character_at b used y) 0 63 x 0 k))

  pub page-feed : (y : ℕ) → y < 2 * height b + 1 → read_at (page b used) y 63 ≡ line_feed
  unfolding text_line
  page-feed y h = line_at y 63 h (omega arith)

-- ── what is read off ──
even_twice : (n : ℕ) → even? (2 * n) ≡ true
even_twice n = eq-eqb (2 * n % 2) 0 (omega arith)

odd_twice : (n : ℕ) → even? (2 * n + 1) ≡ false
odd_twice n = ne_eqb ((2 * n + 1) % 2) 0 (λ z. omega arith)

half : (n : ℕ) → 2 * n / 2 ≡ n
half n = omega arith

half_odd : (n : ℕ) → (2 * n + 1) / 2 ≡ n
half_odd n = omega arith

halved : (n : ℕ) → (n ≡ 2 * (n / 2)) ⊎ (n ≡ 2 * (n / 2) + 1)
halved n = elim (eq_or_ne (n % 2) 0) [ inl e ↦ inl (omega arith) | inr e ↦ inr (omega arith) ]

-- a sign that is no space tells whether something holds
signed : {character sign : ℕ} {Holds : Type 0} (t : Bool) → (sign ≡ space → ⊥) → (t ≡ true) ↔ Holds → character ≡ sign_if t sign
    → (character ≡ sign) ↔ Holds
signed true differ x e = (λ z. x.0 refl, λ h. e)
signed false differ x e =
    (λ z. absurd (differ (sym z ∙ e)), λ h. absurd (let z : ◌≡◌ {A = Bool} false true = x.1 h in let y : ◌≡◌ {A = ℕ} 0 1 = cc in omega arith))

module _ (b : Board) (w : Within b) (used : Edge → Bool) where
  -- the characters of a vertex, of what joins it to the next in its line, of what joins it to the next below, and of what is left
  vertex-at : (l c : ℕ) → l ≤ height b → c < 32 → read_at (page b used) (2 * l) (2 * c) ≡ sign_if (vertex? b (at l c)) plus
  unfolding on_line
  vertex-at l c h k = page-at b used (2 * l) (2 * c) (omega arith) (omega arith) ∙ (rw (even_twice l, even_twice c, half l, half c) refl)

  across-at : (l c : ℕ) → l ≤ height b → c < 31 → read_at (page b used) (2 * l) (2 * c + 1) ≡ sign_if (used (along Right (at l c))) dash
  unfolding on_line
  across-at l c h k = page-at b used (2 * l) (2 * c + 1) (omega arith) (omega arith) ∙ (rw (even_twice l, odd_twice c, half l, half_odd c) refl)

  down-at : (l c : ℕ) → l < height b → c < 32 → read_at (page b used) (2 * l + 1) (2 * c) ≡ sign_if (used (along Down (at l c))) bar
  unfolding below_line
  down-at l c h k = page-at b used (2 * l + 1) (2 * c) (omega arith) (omega arith) ∙ (rw (odd_twice l, even_twice c, half_odd l, half c) refl)

  left_at : (l c : ℕ) → l < height b → c < 31 → read_at (page b used) (2 * l + 1) (2 * c + 1) ≡ space
  unfolding below_line
  left_at l c h k = page-at b used (2 * l + 1) (2 * c + 1) (omega arith) (omega arith) ∙ (rw (odd_twice l, odd_twice c) refl)

  -- a vertex and an edge of the board have such places
  module _ (Used : Edge → Type 0) (exact : (e : Edge) → (used e ≡ true) ↔ Used e) where
    across-read : (l c : ℕ) → l ≤ height b → c < 31
        → (read_at (page b used) (text_line_of (along Right (at l c))) (character_of (along Right (at l c))) ≡ edge_sign (along Right (at l c)))
        ↔ Used (along Right (at l c))
    across-read l c h k =
        let y : l + l ≡ 2 * l = omega arith in let x : c + suc c ≡ 2 * c + 1 = omega arith in
        rw (y, x, eq-eqb l l refl) (signed (used (along Right (at l c))) (λ z. omega arith) (exact (along Right (at l c))) (across-at l c h k))

    down-read : (l c : ℕ) → l < height b → c < 32
        → (read_at (page b used) (text_line_of (along Down (at l c))) (character_of (along Down (at l c))) ≡ edge_sign (along Down (at l c)))
        ↔ Used (along Down (at l c))
    down-read l c h k =
        let y : l + suc l ≡ 2 * l + 1 = omega arith in let x : c + c ≡ 2 * c = omega arith in
        rw (y, x, ne_eqb l (suc l) (λ z. omega arith))
        (signed (used (along Down (at l c))) (λ z. omega arith) (exact (along Down (at l c))) (down-at l c h k))

    side-read : {i j : ℕ} {e : Edge} → i < height b → j < 31 → Side i j e
        → (read_at (page b used) (text_line_of e) (character_of e) ≡ edge_sign e) ↔ Used e
    side-read {i} {j} h k top_side = across-read i j (omega arith) k
    side-read {i} {j} h k bottom_side = across-read (suc i) j h k
    side-read {i} {j} h k left_side = down-read i j h (omega arith)
    side-read {i} {j} h k right_side = down-read i (suc j) h (omega arith)

    corner-in : {i j : ℕ} {v : Vertex} → i < height b → j < 31 → Corner i j v → (v.line ≤ height b) × (v.column < 32)
    corner-in h k top_left = (omega arith, omega arith)
    corner-in h k top_right = (omega arith, omega arith)
    corner-in h k bottom_left = (omega arith, omega arith)
    corner-in h k bottom_right = (omega arith, omega arith)

    -- a place without a vertex and without a used edge is blank
    blank : {character : ℕ} (sign : ℕ) (t : Bool) → character ≡ sign_if t sign → (t ≡ true → ⊥) → character ≡ space
    blank sign true e n = absurd (n refl)
    blank sign false e n = e

    blank-at : (y x l c : ℕ) → y < 2 * height b + 1 → x < 63 → (y ≡ 2 * l) ⊎ (y ≡ 2 * l + 1) → (x ≡ 2 * c) ⊎ (x ≡ 2 * c + 1)
        → ((v : Vertex) → IsVertex b v → y ≡ 2 * v.line → x ≡ 2 * v.column → ⊥) → ((e : Edge) → Used e → y ≡ text_line_of e → x ≡ character_of e → ⊥)
        → read_at (page b used) y x ≡ space
    blank-at y x l c h k (inl p) (inl q) no-vertex no_edge =
        rw (p, q) (blank plus (vertex? b (at l c)) (vertex-at l c (omega arith) (omega arith))
        (λ t. no-vertex (at l c) ((vertex_exact b (at l c)).0 t) p q))
    blank-at y x l c h k (inl p) (inr q) no-vertex no_edge =
        rw (p, q) (blank dash (used (along Right (at l c))) (across-at l c (omega arith) (omega arith))
        (λ t. no_edge (along Right (at l c)) ((exact (along Right (at l c))).0 t) (omega arith) (omega arith)))
    blank-at y x l c h k (inr p) (inl q) no-vertex no_edge =
        rw (p, q) (blank bar (used (along Down (at l c))) (down-at l c (omega arith) (omega arith))
        (λ t. no_edge (along Down (at l c)) ((exact (along Down (at l c))).0 t) (omega arith) (omega arith)))
    blank-at y x l c h k (inr p) (inr q) no-vertex no_edge = rw (p, q) (left_at l c (omega arith) (omega arith))

    -- THE LAW: all that stands on the page, where the test of the used edges is exact
    pub page-reads : ReadsOff b Used (page b used)
    page-reads = record {
      size = page-length b used;
      vertices = λ v h.
          let (i, j, c, corner) = h in
          let (p, q) = corner-in c.row (omega (arith, c.to, w.fits i c.row)) corner in
          vertex-at v.line v.column p q ∙ (rw ((vertex_exact b v).1 h) refl);
      edges = λ e h. let (i, j, c, side) = h in side-read c.row (omega (arith, c.to, w.fits i c.row)) side;
      spaces = λ y x h k. blank-at y x (y / 2) (x / 2) h k (halved y) (halved x);
      ends = page-feed b used;
    }

-- `used_in` is exact
pub used_in_exact : (es : List Edge) (e : Edge) → (used_in es e ≡ true) ↔ (0 < uses e es)
used_in_exact es e = (ltb-true 0 (uses e es), lt-ltb 0 (uses e es))

-- ── the set alone plays a part ──
-- DEFINITION: two tests agree on the edges that have a place on the page of a board
abbrev pub SameOnPage : Board → (used used' : Edge → Bool) → Type 0
SameOnPage b used used' =
    (l c : ℕ) → l ≤ height b → c < 32
    → (used (along Right (at l c)) ≡ used' (along Right (at l c))) × (used (along Down (at l c)) ≡ used' (along Down (at l c)))

module _ (b : Board) (used used' : Edge → Bool) (same : SameOnPage b used used') where
  character-same : (y x : ℕ) → y < 2 * height b + 1 → x < 63 → character_at b used y x ≡ character_at b used' y x
  unfolding on_line below_line
  character-same y x h k = let s = same (y / 2) (x / 2) (omega arith) (omega arith) in rw (s.0, s.1) refl

  -- THE LAW: the same edges, the same page
  pub page-same : page b used ≡ page b used'
  unfolding page text_line
  page-same =
      pieces_same (text_line b used) (text_line b used') 0 (text_lines b)
      (λ y p q. ap (λ (t : List ℕ). t ++ (line_feed ∷ [])) (map_rising (character_at b used y) (character_at b used' y) 0 63
      (λ x r s. character-same y x (omega arith) (omega arith))))

pub same_edges : (b : Board) (es fs : List Edge) → SameEdges es fs → page b (used_in es) ≡ page b (used_in fs)
same_edges b es fs same = page-same b (used_in es) (used_in fs) (λ l c h k. (alike (along Right (at l c)), alike (along Down (at l c))))
  where
    alike : (e : Edge) → used_in es e ≡ used_in fs e
    alike e =
        bool_eq (used_in es e) (used_in fs e)
        (λ t. (used_in_exact fs e).1 ((same e).0 ((used_in_exact es e).0 t))) (λ t. (used_in_exact es e).1 ((same e).1 ((used_in_exact fs e).0 t)))

-- ── and the same page tells the same edges of the board ──
pub read_alike : {b : Board} {Used Other : Edge → Type 0} {text : List ℕ} → ReadsOff b Used text → ReadsOff b Other text → (e : Edge)
    → IsEdge b e → Used e ↔ Other e
read_alike R S e h = (λ u. (S.edges e h).0 ((R.edges e h).1 u), λ v. (R.edges e h).0 ((S.edges e h).1 v))

-- ── the call in its parts ──
pub draw_words_is : (s : Session) (ws : List ℕ) (room : ℕ) → draw_words s ws room ≡ if_sound s (if_room room (judged_page s ws))
unfolding draw_words
draw_words_is s ws room = refl

pub draw_bytes_is : (s : Session) (bs : List ℕ) (room : ℕ)
    → draw_bytes s bs room ≡ if_sound s (if_room room (if_even bs (judged_page s (words_in bs))))
unfolding draw_bytes
draw_bytes_is s bs room = refl

pub room_short : {A : Type 0} (room : ℕ) (x : Result A) → room < page_room → if_room room x ≡ no (refusal 37 0)
room_short room x h = rw (lt-ltb room page_room h) refl

pub room_enough : {A : Type 0} (room : ℕ) (x : Result A) → page_room ≤ room → if_room room x ≡ x
room_enough room x h = rw (le-ltb room page_room h) refl

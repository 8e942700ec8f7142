-- Packing and unpacking are inverse to each other, for each kind of word: a word that says something is the packed word of what it says,
-- and the packed word of fields that fit says just them.
-- Assumes nothing.
use Rattle.std.specs.Prelude.{◌≡◌, refl, true, ℕ, ◌<◌, eqb, leb}
use Rattle.std.proofs.Common.{sym, ◌∙◌, inl, inr, arith, eq-eqb, ne_eqb, eqb-true, leb-true}
use Rattle.count.specs.TruthLaws.{bool, and_true}
use Rattle.board.specs.Path.{number}
use Rattle.board.specs.declared.Direction.{Direction}
use Rattle.board.specs.declared.Direction.TheVariants.{Up, Right, Down, Left}
use Rattle.board.specs.declared.Row.{Row}
use Rattle.board.specs.declared.Vertex.{Vertex}
use Rattle.board_block.specs.Book.{book_number, book_of}
use Rattle.board_block.specs.Taken.{one_or_two}
use Rattle.board_block.specs.declared.Book.{Book}
use Rattle.board_block.specs.declared.Book.TheVariants.{Old, New}
use Rattle.board_block.specs.declared.TakenPins.{TakenPins}
use Rattle.net.specs.declared.Net.{Net}
use Rattle.words.specs.Bits.{bits, kind}
use Rattle.words.specs.BoardWord.{row_word, taken_word, net_word, end_word, row_in, taken_in, net_in, end_in}
use Rattle.words.specs.BoardWord.{as_row, as_taken, as_net, as_end, board_word}
use Rattle.words.specs.RoutingWord.{
  path_word,
  run_word,
  routing_end_word,
  direction,
  path_in,
  run_in,
  as_path,
  as_run,
  as_routing_end,
  routing_word,
}
use Rattle.words.specs.declared.BoardEnd.{BoardEnd}
use Rattle.words.specs.declared.Path.{Path}
use Rattle.words.specs.declared.Run.{Run}
use Rattle.words.specs.declared.BoardWord.TheVariants as board
use Rattle.words.specs.declared.RoutingWord.TheVariants as routing

-- ── fields that fit ──
abbrev pub RowFits : Row → Type 0
RowFits r = (r.left < 32) × (r.right < 32)

abbrev pub VertexFits : Vertex → Type 0
VertexFits v = (v.line < 32) × (v.column < 32)

abbrev pub TakenFits : TakenPins → Type 0
TakenFits t = (one_or_two t.count ≡ true) × VertexFits t.vertex

abbrev pub NetFits : Net → Type 0
NetFits n = (n.number < 256) × VertexFits n.ends.first × VertexFits n.ends.second

-- ── packed, then unpacked ──
pub row_back : (r : Row) → RowFits r → board_word (row_word r) ≡ board.Row r
unfolding board_word as_row
row_back r (h, k) =
    let t : kind (row_word r) ≡ 1 = omega arith in
    let p : bits 5 5 (row_word r) ≡ r.left = omega arith in
    let q : bits 0 5 (row_word r) ≡ r.right = omega arith in
    rw (eq-eqb (kind (row_word r)) 1 t, p, q, eq-eqb (row_word r) (row_word r) refl) refl

pub taken-back : (t : TakenPins) → TakenFits t → board_word (taken_word t) ≡ board.Taken t
unfolding board_word as_taken
taken-back t (h, (a, b)) =
    let w = taken_word t in
    let m = leb-true t.count 2 (and_true (leb 1 t.count) (leb t.count 2) h).1 in
    let k : kind w ≡ 3 = omega arith in
    let p : bits 10 2 w ≡ t.count = omega arith in
    let q : bits 5 5 w ≡ t.vertex.line = omega arith in
    let r : bits 0 5 w ≡ t.vertex.column = omega arith in
    rw (
      ne_eqb (kind w) 1 (λ e. omega arith),
      ne_eqb (kind w) 2 (λ e. omega arith),
      eq-eqb (kind w) 3 k,
      p,
      q,
      r,
      h,
      eq-eqb w w refl,
    ) refl

pub net_back : (n : Net) → NetFits n → board_word (net_word n) ≡ board.Net n
unfolding board_word as_net
net_back n (h, (a, b), (c, d)) =
    let t : kind (net_word n) ≡ 2 = omega arith in
    let p : bits 20 8 (net_word n) ≡ n.number = omega arith in
    let q : bits 15 5 (net_word n) ≡ n.ends.first.line = omega arith in
    let r : bits 10 5 (net_word n) ≡ n.ends.first.column = omega arith in
    let s : bits 5 5 (net_word n) ≡ n.ends.second.line = omega arith in
    let u : bits 0 5 (net_word n) ≡ n.ends.second.column = omega arith in
    rw (ne_eqb (kind (net_word n)) 1 (λ e. omega arith), eq-eqb (kind (net_word n)) 2 t, p, q, r, s, u, eq-eqb (net_word n) (net_word n) refl) refl

book_back : (k : Book) → book_of (book_number k) ≡ k
book_back Old = refl
book_back New = refl

pub book_small : (k : Book) → book_number k < 2
book_small Old = omega arith
book_small New = omega arith

pub end_back : (c : BoardEnd) → c.rows < 256 → c.nets < 256 → board_word (end_word c.book c.rows c.nets) ≡ board.End c
unfolding board_word as_end
end_back c h k =
    let w = end_word c.book c.rows c.nets in let s = book_small c.book in
    let t : kind w ≡ 15 = omega arith in
    let b : bits 24 4 w ≡ book_number c.book = omega arith in
    let p : bits 8 8 w ≡ c.rows = omega arith in
    let q : bits 0 8 w ≡ c.nets = omega arith in
    rw (
      ne_eqb (kind w) 1 (λ e. omega arith),
      ne_eqb (kind w) 2 (λ e. omega arith),
      ne_eqb (kind w) 3 (λ e. omega arith),
      eq-eqb (kind w) 15 t,
      b,
      book_back c.book,
      p,
      q,
      eq-eqb w w refl,
    ) refl

pub direction_back : (d : Direction) → direction (number d) ≡ d
direction_back Up = refl
direction_back Right = refl
direction_back Down = refl
direction_back Left = refl

pub number_small : (d : Direction) → number d < 4
number_small Up = omega arith
number_small Right = omega arith
number_small Down = omega arith
number_small Left = omega arith

pub path_back : (p : Path) → p.number < 256 → p.runs < 2048 → routing_word (path_word p) ≡ routing.Path p
unfolding routing_word as_path
path_back p h k =
    let w = path_word p in
    let t : kind w ≡ 4 = omega arith in
    let q : bits 20 8 w ≡ p.number = omega arith in
    let r : bits 0 11 w ≡ p.runs = omega arith in
    rw (eq-eqb (kind w) 4 t, q, r, eq-eqb w w refl) refl

pub run_back : (r : Run) → r.length < 32 → routing_word (run_word r) ≡ routing.Run r
unfolding routing_word as_run
run_back r h =
    let w = run_word r in let n = number_small r.direction in
    let t : kind w ≡ 5 = omega arith in
    let p : bits 26 2 w ≡ number r.direction = omega arith in
    let q : bits 0 5 w ≡ r.length = omega arith in
    rw (ne_eqb (kind w) 4 (λ e. omega arith), eq-eqb (kind w) 5 t, p, q, direction_back r.direction, eq-eqb w w refl) refl

pub routing_end_back : (n : ℕ) → n < 256 → routing_word (routing_end_word n) ≡ routing.End n
unfolding routing_word as_routing_end
routing_end_back n h =
    let w = routing_end_word n in
    let t : kind w ≡ 14 = omega arith in
    let q : bits 0 8 w ≡ n = omega arith in
    rw (ne_eqb (kind w) 4 (λ e. omega arith), ne_eqb (kind w) 5 (λ e. omega arith), eq-eqb (kind w) 14 t, q, eq-eqb w w refl) refl

-- ── unpacked, then packed ──
-- a word that says something is the packed word of what it says, and its fields fit
pub data SaysBoard (w : ℕ) : Type 0 where
  says_row : (r : Row) → RowFits r → w ≡ row_word r → board_word w ≡ board.Row r → SaysBoard w
  says_taken : (t : TakenPins) → TakenFits t → w ≡ taken_word t → board_word w ≡ board.Taken t → SaysBoard w
  says_net : (n : Net) → NetFits n → w ≡ net_word n → board_word w ≡ board.Net n → SaysBoard w
  says_end : (c : BoardEnd) → c.rows < 256 → c.nets < 256 → w ≡ end_word c.book c.rows c.nets → board_word w ≡ board.End c → SaysBoard w
  says_nothing : board_word w ≡ board.Unknown → SaysBoard w

says_row_or_not : (w : ℕ) → board_word w ≡ as_row w → SaysBoard w
unfolding as_row
says_row_or_not w e = elim (bool (eqb (row_word (row_in w)) w)) [
  | inl t ↦ says_row (row_in w) (omega arith, omega arith) (sym (eqb-true (row_word (row_in w)) w t)) (e ∙ rw t refl)
  | inr t ↦ says_nothing (e ∙ rw t refl)
]

says_taken_or_not : (w : ℕ) → board_word w ≡ as_taken w → SaysBoard w
unfolding as_taken
says_taken_or_not w e = elim (bool (one_or_two (taken_in w).count)) [
  | inl f ↦ elim (bool (eqb (taken_word (taken_in w)) w)) [
    | inl t ↦ says_taken (taken_in w) (f, (omega arith, omega arith)) (sym (eqb-true (taken_word (taken_in w)) w t)) (e ∙ rw (f, t) refl)
    | inr t ↦ says_nothing (e ∙ rw (f, t) refl)
  ]
  | inr f ↦ says_nothing (e ∙ rw f refl)
]

says_net_or_not : (w : ℕ) → board_word w ≡ as_net w → SaysBoard w
unfolding as_net
says_net_or_not w e = elim (bool (eqb (net_word (net_in w)) w)) [
  | inl t ↦
      says_net (net_in w) (omega arith, (omega arith, omega arith), (omega arith, omega arith)) (sym (eqb-true (net_word (net_in w)) w t))
      (e ∙ rw t refl)
  | inr t ↦ says_nothing (e ∙ rw t refl)
]

says_end_or_not : (w : ℕ) → board_word w ≡ as_end w → SaysBoard w
unfolding as_end
says_end_or_not w e =
    let packed = end_word (end_in w).book (end_in w).rows (end_in w).nets in
    elim (bool (eqb packed w)) [
      | inl t ↦ says_end (end_in w) (omega arith) (omega arith) (sym (eqb-true packed w t)) (e ∙ rw t refl)
      | inr t ↦ says_nothing (e ∙ rw t refl)
    ]

pub says_board : (w : ℕ) → SaysBoard w
unfolding board_word
says_board w = elim (bool (eqb (kind w) 1)) [
  | inl e ↦ says_row_or_not w (rw e refl)
  | inr e ↦ elim (bool (eqb (kind w) 2)) [
    | inl f ↦ says_net_or_not w (rw (e, f) refl)
    | inr f ↦ elim (bool (eqb (kind w) 3)) [
      | inl g ↦ says_taken_or_not w (rw (e, f, g) refl)
      | inr g ↦ elim (bool (eqb (kind w) 15)) [
        | inl h ↦ says_end_or_not w (rw (e, f, g, h) refl)
        | inr h ↦ says_nothing (rw (e, f, g, h) refl)
      ]
    ]
  ]
]

pub data SaysRouting (w : ℕ) : Type 0 where
  says_path : (p : Path) → p.number < 256 → p.runs < 2048 → w ≡ path_word p → routing_word w ≡ routing.Path p → SaysRouting w
  says_run : (r : Run) → r.length < 32 → w ≡ run_word r → routing_word w ≡ routing.Run r → SaysRouting w
  says_routing_end : (n : ℕ) → n < 256 → w ≡ routing_end_word n → routing_word w ≡ routing.End n → SaysRouting w
  says_no_routing : routing_word w ≡ routing.Unknown → SaysRouting w

says_path_or_not : (w : ℕ) → routing_word w ≡ as_path w → SaysRouting w
unfolding as_path
says_path_or_not w e = elim (bool (eqb (path_word (path_in w)) w)) [
  | inl t ↦ says_path (path_in w) (omega arith) (omega arith) (sym (eqb-true (path_word (path_in w)) w t)) (e ∙ rw t refl)
  | inr t ↦ says_no_routing (e ∙ rw t refl)
]

says_run_or_not : (w : ℕ) → routing_word w ≡ as_run w → SaysRouting w
unfolding as_run
says_run_or_not w e = elim (bool (eqb (run_word (run_in w)) w)) [
  | inl t ↦ says_run (run_in w) (omega arith) (sym (eqb-true (run_word (run_in w)) w t)) (e ∙ rw t refl)
  | inr t ↦ says_no_routing (e ∙ rw t refl)
]

says_routing_end_or_not : (w : ℕ) → routing_word w ≡ as_routing_end w → SaysRouting w
unfolding as_routing_end
says_routing_end_or_not w e = elim (bool (eqb (routing_end_word (bits 0 8 w)) w)) [
  | inl t ↦ says_routing_end (bits 0 8 w) (omega arith) (sym (eqb-true (routing_end_word (bits 0 8 w)) w t)) (e ∙ rw t refl)
  | inr t ↦ says_no_routing (e ∙ rw t refl)
]

pub says_routing : (w : ℕ) → SaysRouting w
unfolding routing_word
says_routing w = elim (bool (eqb (kind w) 4)) [
  | inl e ↦ says_path_or_not w (rw e refl)
  | inr e ↦ elim (bool (eqb (kind w) 5)) [
    | inl f ↦ says_run_or_not w (rw (e, f) refl)
    | inr f ↦ elim (bool (eqb (kind w) 14)) [
      | inl g ↦ says_routing_end_or_not w (rw (e, f, g) refl)
      | inr g ↦ says_no_routing (rw (e, f, g) refl)
    ]
  ]
]

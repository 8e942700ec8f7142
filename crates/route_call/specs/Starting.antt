-- The arrays that hold a board's lines and a table of pairs are a start of the router; the table of the nets and helper pairs is such a table.
-- Assumes pairs that are good on the board's lines, and zeroed notes; of nets and helper pairs, what `Helped` says.
use Rattle.std.specs.Prelude.{◌≡◌, refl, false, List, [], ◌∷◌, ◌++◌, ℕ, zero, suc, ◌+◌, ◌≤◌, ◌<◌, length, get_or, take, replicate}
use Rattle.std.proofs.Common.{ap, ap₂, ◌∙◌, sym, subst, arith, length-take-le}
use Rattle.std.proofs.lemmas.List.{length-replicate}
use Rattle.count.specs.Sum.{sum, sum_zero, sum_suc, sum_eq}
use Rattle.board.specs.Board.{Board, height}
use Rattle.board.specs.declared.Vertex.{Vertex}
use Rattle.net.specs.declared.Pair.{Pair}
use Rattle.session_rules.specs.Session.{Session, pairs}
use Rattle.corner.specs.Pairs.{tally, All, SamePairs}
use Rattle.corner.specs.Shape.{Here, Good, last}
use Rattle.corner.proofs.Presence.{last_suc}
use Rattle.corner.proofs.Lines.{lines_of}
use Rattle.corner.proofs.Order.{good_same}
use Rattle.corner.proofs.OddBoards.{helped-good}
use Rattle.corner_pins.proofs.Few.{few-pairs}
use Rattle.router_notes.specs.Limits.{pair_limit, vertex_limit}
use Rattle.router_notes.specs.declared.Table as code
use Rattle.router_notes.specs.declared.Notes.{Notes}
use Rattle.router_notes.specs.declared.Lines.{Lines}
use Rattle.router_notes.specs.Notes.{Item, item}
use Rattle.router_notes.specs.Inv.{turn_i}
use Rattle.router_notes.specs.Table.{tally-of}
use Rattle.router_notes.specs.Alike.{good-alike}
use Rattle.router_notes.specs.Arrays.{vtx}
use Rattle.router_invariant.specs.Run.{Run, Sized, row_r, shape_r, pairs_r}
use Rattle.router_invariant.proofs.Place.{vtx_at, last_is}
use Rattle.router_tidy.specs.Start.{Starts}
use Rattle.router_ends.specs.declared.Work.{Work}
use Rattle.router_ends.specs.View.{run}
use Rattle.router_start.specs.Lines.{Lined}
use Rattle.router_start.specs.LineLaws.{lined-lo, lined-hi, lined_alike}
use Rattle.router_start.specs.Table.{word_of, no_pair, Emptied, Table, FillsIn, StartsKept}
use Rattle.router_start.specs.TableLaws.{fills-table}
use Rattle.session_rules.specs.Sound.{Sound}
use Rattle.session_laws.proofs.Exact.{sound_exact}
use Rattle.pairing_search.specs.declared.HelperPairs.{HelperPairs}
use Rattle.route_call.specs.Answers.{Helped}
use Rattle.route_call.specs.Filled.{blank_notes, blank_table, first_work, Filled}
use Rattle.route_call.specs.Sessions.{problem_of}

-- ── pairs by their place in the list ──
pub all_get : (P : Vertex → Type 0) (ps : List Pair) (i : ℕ) → i < length ps → All P ps → P (get_or ps i no_pair).first × P (get_or ps i no_pair).second
all_get P [] i h a = absurd (omega arith)
all_get P (p ∷ ps) zero h a = (a.0, a.1)
all_get P (p ∷ ps) (suc i) h a = all_get P ps i (omega arith) a.2

-- a count over the pairs is a sum over their places
tally_places : (f : Vertex → Vertex → ℕ) (g : ℕ → ℕ) (k : ℕ) (ps : List Pair)
    → ((i : ℕ) → i < length ps → g (k + i) ≡ f (get_or ps i no_pair).first (get_or ps i no_pair).second) → sum k g + tally f ps ≡ sum (k + length ps) g
unfolding tally
tally_places f g k [] h =
    let e : k + 0 ≡ k = omega arith in
    rw e (omega arith)
tally_places f g k (p ∷ ps) h =
    let z : k + 0 ≡ k = omega arith in
    let q : suc k + length ps ≡ k + suc (length ps) = omega arith in
    let first : g k ≡ f p.first p.second = rw z at (h 0 (omega arith)) in
    let rest : (i : ℕ) → i < length ps → g (suc k + i) ≡ f (get_or ps i no_pair).first (get_or ps i no_pair).second = λ i l.
    let m : k + suc i ≡ suc k + i = omega arith in
    rw m at (h (suc i) (omega arith)) in
    rw (← q) (omega (arith, tally_places f g (suc k) ps rest, sum_suc k g, first))

vtx_word : (v : Vertex) → v.column < 32 → vtx (word_of v) ≡ v
vtx_word v h = vtx_at v.line v.column h

zeros : (m p : ℕ) → get_or {A = ℕ} (replicate m 0) p 0 ≡ 0
zeros zero p = refl
zeros (suc m) zero = refl
zeros (suc m) (suc p) = zeros m p

pub clear_zeros : Emptied blank_table blank_notes
clear_zeros = record {
  low = λ k. omega (arith, zeros pair_limit k);
  la_size = length-replicate {A = ℕ} pair_limit 0;
  lb_size = length-replicate {A = ℕ} pair_limit 0;
  ids_size = length-replicate {A = ℕ} pair_limit 0;
  s1_size = length-replicate {A = ℕ} pair_limit 0;
  s2_size = length-replicate {A = ℕ} pair_limit 0;
}

-- ── the start ──
pub first_low : (w : Work) (bottom n : ℕ) → w ≡ first_work bottom n → bottom ≤ 31 → n ≤ 64
    → (w.top ≤ 31) × (w.bottom ≤ 31) × (w.n ≤ 64) × (w.next ≤ 64)
first_low w bottom n e h k = rw e (omega arith, h, k, k)

module _ (b : Board) (ps : List Pair) (G : Good (lines_of b) ps) (some : 1 ≤ height b) {h : ℕ} (tall : h ≡ height b) (l : Lines)
    (L : Lined b (h + 1) (replicate 32 0) (replicate 32 0) l.first l.last) (t : code.Table) (m : Notes) {n : ℕ}
    (T : Table ps n t.first t.second t.number m.start m.end) (blank : StartsKept blank_notes m) where
  abbrev pub R0 : Run
  R0 = run t m l (first_work h n)

  low : (v : Vertex) → Here (lines_of b) v → (v.line ≤ last) × (v.column < 32)
  low v k = let S = G.shaped in let t = S.thin v.line (k.low, k.high) in
      (omega (arith, k.high, S.low, last_suc), omega (arith, k.to, t, last_suc, last_is))

  ends : (i : ℕ) → i < n → Here (lines_of b) (get_or ps i no_pair).first × Here (lines_of b) (get_or ps i no_pair).second
  ends i l = all_get (Here (lines_of b)) ps i (omega (arith, T.count)) G.stand

  pub row_is : (i : ℕ) → i < n → row_r R0 i ≡ item i (get_or ps i no_pair).first (get_or ps i no_pair).second
  row_is i l =
      let a : vtx (get_or t.first i 0) ≡ (get_or ps i no_pair).first =
      ap vtx (T.first i l) ∙ vtx_word (get_or ps i no_pair).first (low (get_or ps i no_pair).first (ends i l).0).1 in
      let c : vtx (get_or t.second i 0) ≡ (get_or ps i no_pair).second =
      ap vtx (T.second i l) ∙ vtx_word (get_or ps i no_pair).second (low (get_or ps i no_pair).second (ends i l).1).1 in
      ap (λ (k : ℕ). item k (vtx (get_or t.first i 0)) (vtx (get_or t.second i 0))) (T.number i l) ∙ ap₂ (λ (u v : Vertex). item i u v) a c

  same-pairs : SamePairs ps (pairs_r R0)
  same-pairs f s =
      let g : ℕ → ℕ = λ i. f (get_or ps i no_pair).first (get_or ps i no_pair).second in
      let t : tally f ps ≡ sum n g = omega (
        arith,
        tally_places f g 0 ps (λ i l. ap g (let q : 0 + i ≡ i = omega arith in q)),
        sum_zero g,
        T.count,
        ap (λ (k : ℕ). sum k g) (let q : 0 + length ps ≡ n = omega (arith, T.count) in q),
      ) in
      t ∙ sym (tally-of f n (λ k. turn_i false (row_r R0 k))
      ∙ sum_eq n (λ i. f (row_r R0 i).a (row_r R0 i).b) g (λ i l. ap (λ (x : Item). f x.a x.b) (row_is i l)))

  pub starts : Starts R0
  starts = record {
    side = λ p. rw blank.0 (zeros vertex_limit p);
    vert = λ p. rw blank.1 (zeros vertex_limit p);
    half = λ p. rw blank.2 (zeros pair_limit p);
    d1 = λ p. rw blank.3 (zeros pair_limit p);
    d2 = λ p. rw blank.4 (zeros pair_limit p);
    number = T.number;
    first = T.made_first;
    second = T.made_second;
    frame = λ i l. let e = row_is i l in (
      subst (λ (x : Item). x.a.line ≤ last) (sym e) (low (get_or ps i no_pair).first (ends i l).0).0,
      subst (λ (x : Item). x.b.line ≤ last) (sym e) (low (get_or ps i no_pair).second (ends i l).1).0,
    );
    next = refl;
    good = good_same (shape_r R0) ps (pairs_r R0) same-pairs (good-alike (lines_of b) (shape_r R0) (lined_alike b h some tall L) ps G);
  }

  room : h ≤ 31 → h + 1 ≤ length {A = ℕ} (replicate 32 0)
  room k = omega (arith, length-replicate {A = ℕ} 32 0)

  pub sized : h ≤ 31 → Sized R0
  sized few = record {
    la = T.clear.la_size;
    lb = T.clear.lb_size;
    ids = T.clear.ids_size;
    side = rw blank.0 (length-replicate {A = ℕ} vertex_limit 0);
    vert = rw blank.1 (length-replicate {A = ℕ} vertex_limit 0);
    half = rw blank.2 (length-replicate {A = ℕ} pair_limit 0);
    s1 = T.clear.s1_size;
    s2 = T.clear.s2_size;
    d1 = rw blank.3 (length-replicate {A = ℕ} pair_limit 0);
    d2 = rw blank.4 (length-replicate {A = ℕ} pair_limit 0);
    lo = lined-lo b L (room few) ∙ length-replicate {A = ℕ} 32 0;
    hi = lined-hi b L (room few) ∙ length-replicate {A = ℕ} 32 0;
  }

-- ── the nets, and helper pairs after them ──
module _ (s : Session) (r : HelperPairs) (H : Helped s r) where
  S : Sound s
  S = (sound_exact s).0 H.sound

  -- there is room for all of them
  pub helped-room : (ps : List Pair) → pairs s.nets ≡ ps → (n : ℕ) → n ≡ length ps → n + r.count ≤ 64
  helped-room ps e n k = omega (
    arith,
    few-pairs s.block.board (pairs s.nets) (take r.count r.pairs) (problem_of s S) H.helpers,
    length-take-le r.count r.pairs (omega (arith, H.most, H.long)),
    ap length e,
  )

  pub helped-rows : (ps : List Pair) → pairs s.nets ≡ ps → (n : ℕ) → n ≡ length ps → n + length (take r.count r.pairs) ≤ 64
  helped-rows ps e n k = omega (arith, helped-room ps e n k, length-take-le r.count r.pairs (omega (arith, H.most, H.long)))

  pub helped-filled : (ps : List Pair) → pairs s.nets ≡ ps → {n : ℕ} (t : code.Table) (m : Notes) → n ≤ 64
      → FillsIn (ps ++ take r.count r.pairs) n blank_table blank_notes t m → Filled s n t m
  helped-filled ps e t m most F = record {
    ps = ps ++ take r.count r.pairs;
    helpers = take r.count r.pairs;
    nets_first = ap (λ (qs : List Pair). qs ++ take r.count r.pairs) e;
    table = fills-table clear_zeros most F.0;
    blank = F.1;
    most = most;
    good = subst (λ (qs : List Pair). Good (lines_of s.block.board) (qs ++ take r.count r.pairs)) e
        (helped-good s.block.board (pairs s.nets) (problem_of s S) (take r.count r.pairs) H.helpers H.roomy);
  }

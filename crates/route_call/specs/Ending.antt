-- What the router leaves of a table that begins with a session's nets is what the call `route` hands back: the helpers' paths are forgotten.
-- Assumes a sound session, a table as `Filled` says, and what the parts promise: the board's lines, the router's run, and the words that are
-- written from its notes.
use Rattle.std.specs.Prelude.{◌≡◌, Bool, true, false, ◌&&◌, List, ℕ, ◌+◌, ◌≤◌, ◌<◌, leb, length, get_or, replicate}
use Rattle.std.proofs.Common.{ap, ◌∙◌, sym, subst, inl, inr, arith, length-append}
use Rattle.std.proofs.lemmas.List.{length-map}
use Rattle.std.proofs.Math.ListN.{get_or-append}
use Rattle.count.specs.Truth.{one}
use Rattle.count.specs.TruthLaws.{bool, one_le, and_true, and_yes}
use Rattle.board.specs.Board.{Board, height, Within}
use Rattle.board.specs.Path.{Convex}
use Rattle.board.specs.declared.Vertex.{Vertex}
use Rattle.net.specs.declared.Pair.{Pair}
use Rattle.board_convex.proofs.Lemma1.{lemma_1}
use Rattle.session_rules.specs.Session.{Session, pairs}
use Rattle.session_rules.specs.Sound.{Sound}
use Rattle.call_rules.specs.Route.{route_room, HandsBack}
use Rattle.call_rules.specs.Writing.{written_into}
use Rattle.corner.specs.Pairs.{pair}
use Rattle.corner.specs.Shape.{Shape, present, last}
use Rattle.corner.specs.Trails.{Link, hor, ver, lo, hi, joined}
use Rattle.corner.specs.Links.{on_board}
use Rattle.corner.proofs.Lines.{lines_of, joined-board}
use Rattle.router_notes.specs.Limits.{pair_limit}
use Rattle.router_notes.specs.declared.Table as code
use Rattle.router_notes.specs.declared.Notes.{Notes}
use Rattle.router_notes.specs.declared.Lines.{Lines}
use Rattle.router_notes.specs.Notes.{Item, Routed}
use Rattle.router_notes.specs.Lift.{lift_fewer}
use Rattle.router_notes.specs.State.{room as edgesLeft}
use Rattle.router_notes.specs.Alike.{Alike, present-alike}
use Rattle.router_notes.specs.Arrays.{left_of, notesOf}
use Rattle.router_trace.specs.Traces.{path_of}
use Rattle.router_invariant.specs.Run.{Run, state_r, shape_r, row_r}
use Rattle.router_ends.specs.declared.Work.{Work}
use Rattle.router_loop.specs.Promise.{CutAll}
use Rattle.router_loop.specs.Routed as ended
use Rattle.router_writer.specs.Paths.{words_of, Fits}
use Rattle.router_writer.specs.Routes.{pairs_from, pairs-from}
use Rattle.router_writer.specs.Handed.{fits, handed}
use Rattle.router_start.specs.Lines.{Lined}
use Rattle.router_start.specs.LineLaws.{lined_alike}
use Rattle.router_start.specs.Table.{no_pair}
use Rattle.route_call.specs.Filled.{first_work, Filled}
use Rattle.route_call.specs.Starting.{R0, row_is, starts, sized}

-- ── a unit edge between two vertices of the shape is an edge of the board ──
left_present : (S S' : Shape) → Alike S S' → (v : Vertex) → left_of S' false v ≡ true → present S v.line v.column ≡ true
left_present S S' A v e = present-alike S S' A v.line v.column ∙ (and_true (leb v.line last) (present S' v.line v.column) e).1

both_joined : (S S' : Shape) → Alike S S' → (e : Link) → left_of S' false (lo e) ≡ true → left_of S' false (hi e) ≡ true → joined S e ≡ true
both_joined S S' A (hor l c) p q = and_yes _ _ (left_present S S' A (lo (hor l c)) p) (left_present S S' A (hi (hor l c)) q)
both_joined S S' A (ver l c) p q = and_yes _ _ (left_present S S' A (lo (ver l c)) p) (left_present S S' A (hi (ver l c)) q)

room_edge : (b : Board) → Within b → Convex b → (S' : Shape) → Alike (lines_of b) S' → (e : Link)
    → edgesLeft (left_of S' false) e ≤ one (on_board b e)
room_edge b W C S' A e = elim (bool (left_of S' false (lo e) && left_of S' false (hi e))) [
  | inr h ↦ omega (arith, ap one h)
  | inl h ↦
      let k = and_true (left_of S' false (lo e)) (left_of S' false (hi e)) h in
      let N = (lemma_1 b W).0 C in
      let j : on_board b e ≡ true = sym (joined-board b W N.0 N.1 e) ∙ both_joined (lines_of b) S' A e k.0 k.1 in
      omega (arith, ap one j, one_le (left_of S' false (lo e) && left_of S' false (hi e)))
]

module _ (s : Session) (S : Sound s) {h : ℕ} (tall : h ≡ height s.block.board) (l : Lines)
    (L : Lined s.block.board (h + 1) (replicate 32 0) (replicate 32 0) l.first l.last) (t : code.Table) (m : Notes) {n : ℕ} (F : Filled s n t m) where
  abbrev R : Run
  R = R0 s.block.board F.ps F.good S.within.some tall l L t m F.table F.blank

  nets : length (pairs s.nets) ≡ length s.nets
  nets = length-map s.nets (λ m. m.ends)

  fewer : length s.nets ≤ n
  fewer = omega (arith, F.table.count, ap length F.nets_first, length-append (pairs s.nets) F.helpers, nets)

  -- net k is pair k
  net-pair : (i : ℕ) → i < length (pairs s.nets) → pair (row_r R i).a (row_r R i).b ≡ get_or (pairs s.nets) i no_pair
  net-pair i b =
      let e = row_is s.block.board F.ps F.good S.within.some tall l L t m F.table F.blank i (omega (arith, fewer, nets)) in
      ap (λ (x : Item). pair x.a x.b) e
      ∙ (ap (λ (ps : List Pair). get_or ps i no_pair) (sym F.nets_first) ∙ get_or-append (pairs s.nets) F.helpers no_pair i b)

  ends : pairs s.nets ≡ pairs_from (row_r R) 0 (length s.nets)
  ends =
      let f : pairs s.nets ≡ pairs_from (row_r R) 0 (length (pairs s.nets)) = pairs-from (row_r R) no_pair 0 (pairs s.nets) (λ i l.
      let z : 0 + i ≡ i = omega arith in
      rw z (net-pair i l)) in
      subst (λ (k : ℕ). pairs s.nets ≡ pairs_from (row_r R) 0 k) nets f

  -- the router has run
  module _ (w : Work) (start : w ≡ first_work h n) (t' : code.Table) (m' : Notes) (l' : Lines) {r : Bool} (C : CutAll t m l w t' m' l' r) where
    K : ended.Routed (state_r R) m'.side m'.vert m'.half m'.start m'.end m'.to_corner m'.from_corner
    K = (ended.routed t m l (first_work h n) t' m' l' r (subst (λ (v : Work). CutAll t m l v t' m' l' r) start C)
        (starts s.block.board F.ps F.good S.within.some tall l L t m F.table F.blank)
        (sized s.block.board F.ps F.good S.within.some tall l L t m F.table F.blank (omega (arith, tall, S.within.few)))).1

    abbrev P : ℕ → List ℕ
    P = path_of m' pair_limit

    edges : (e : Link) → edgesLeft (left_of (shape_r R) false) e ≤ one (on_board s.block.board e)
    edges = room_edge s.block.board S.within S.convex (shape_r R) (lined_alike s.block.board h S.within.some tall L)

    nets-routed : Routed (notesOf m'.side m'.vert m'.half m'.start m'.end m'.to_corner m'.from_corner) (edgesLeft (left_of (shape_r R) false))
        (length s.nets) (row_r R)
    nets-routed = lift_fewer (notesOf m'.side m'.vert m'.half m'.start m'.end m'.to_corner m'.from_corner) (edgesLeft (left_of (shape_r R) false))
        (length s.nets) n (row_r R) fewer
        K.routes

    pub fits-buffer : {before : List ℕ} → route_room s ≤ length before → Fits P s.nets before
    fits-buffer room = fits m'.side m'.vert m'.half m'.start m'.end m'.to_corner m'.from_corner K.ordered s
        S.within (edgesLeft (left_of (shape_r R) false)) edges (row_r R)
        nets-routed (λ i l. K.made i (omega (arith, fewer))) ends (omega (arith, fewer, F.most)) room

    pub handed-back : {before after : List ℕ} {answer : ℕ} → answer ≡ length (words_of P s.nets) → after ≡ written_into before (words_of P s.nets)
        → HandsBack s before after answer
    handed-back counted words = handed m'.side m'.vert m'.half m'.start m'.end m'.to_corner m'.from_corner K.ordered s
        S.within (edgesLeft (left_of (shape_r R) false)) edges
        (row_r R) nets-routed (λ i l. K.made i (omega (arith, fewer))) ends (omega (arith, fewer, F.most)) counted words

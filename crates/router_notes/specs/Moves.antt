-- Laws of moves and paths: walks joined, uses counted, and a pair's path when one of its ends has one move more.
-- Assumes nothing.
use Rattle.std.specs.Prelude.{◌≡◌, refl, List, [], ◌∷◌, ◌++◌, ℕ, ◌+◌}
use Rattle.std.proofs.Common.{ap, ◌∙◌, sym, subst, append_assoc, arith}
use Rattle.count.specs.Truth.{one}
use Rattle.board.specs.declared.Vertex.{Vertex}
use Rattle.corner.specs.Trails.{Link, same_link}
use Rattle.router_notes.specs.Notes.{Move, edge, start, finish, opp, Goes, uses, revm, item, Notes, Path, fwd, bwd, on, step, plain, joint}

pub uses_cons : (e : Link) (m : Move) (ms : List Move) → uses e (m ∷ ms) ≡ one (same_link e (edge m)) + uses e ms
unfolding uses
uses_cons e m ms = refl

pub uses_none : (e : Link) → uses e [] ≡ 0
unfolding uses
uses_none e = refl

pub uses_join : (e : Link) (xs ys : List Move) → uses e (xs ++ ys) ≡ uses e xs + uses e ys
unfolding uses
uses_join e [] ys = omega arith
uses_join e (m ∷ xs) ys = omega (arith, uses_join e xs ys)

pub goes_join : (u v w : Vertex) (xs ys : List Move) → Goes u xs v → Goes v ys w → Goes u (xs ++ ys) w
goes_join u v w [] ys h k = subst (λ t. Goes t ys w) (sym h) k
goes_join u v w (m ∷ xs) ys h k = (h.0, goes_join (finish m) v w xs ys h.1 k)

pub start_opp : (m : Move) → start (opp m) ≡ finish m
start_opp (fwd e) = refl
start_opp (bwd e) = refl

pub finish_opp : (m : Move) → finish (opp m) ≡ start m
finish_opp (fwd e) = refl
finish_opp (bwd e) = refl

pub edge_opp : (m : Move) → edge (opp m) ≡ edge m
edge_opp (fwd e) = refl
edge_opp (bwd e) = refl

pub uses_end : (e : Link) (m : Move) (ms : List Move) → uses e (ms ++ (opp m ∷ [])) ≡ one (same_link e (edge m)) + uses e ms
unfolding uses
uses_end e m ms = rw (uses_join e ms (opp m ∷ []), edge_opp m) (omega arith)

-- a move more at the first end, at the second end
pub path_first : (N : Notes) (k : ℕ) (u b : Vertex) (m : Move) (ms : List Move) → N.go k u ≡ on m → Path N (item k (finish m) b) ms
    → Path N (item k u b) (m ∷ ms)
path_first N k u b m ms g (plain p f h e) = plain p (step g f) h (ap (λ t. m ∷ t) e)
path_first N k u b m ms g (joint p f h x y e) = joint p (step g f) h x y (ap (λ t. m ∷ t) e)

pub path_second : (N : Notes) (k : ℕ) (u a : Vertex) (m : Move) (ms : List Move) → N.go k u ≡ on m → Path N (item k a (finish m)) ms
    → Path N (item k a u) (ms ++ (opp m ∷ []))
unfolding revm
path_second N k u a m ms g (plain p f h e) = plain p f (step g h) (ap (λ t. t ++ (opp m ∷ [])) e ∙ simp append_assoc)
path_second N k u a m ms g (joint p f h x y e) = joint p f (step g h) x y (ap (λ t. t ++ (opp m ∷ [])) e ∙ simp append_assoc)

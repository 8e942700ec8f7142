-- A buffer with words or bytes at its start and the rest as it was: one more of them.
-- Assumes nothing.
use Rattle.std.specs.Prelude.{◌≡◌, List, [], ◌∷◌, ◌++◌, ℕ, suc, ◌<◌, ◌≤◌, length, drop, set}
use Rattle.std.proofs.Common.{ap, ◌∙◌, append_assoc, arith, length-append, length-drop, drop-cons}
use Rattle.std.proofs.Math.Seq.{set-append_seam}
use Rattle.call_rules.specs.Writing.{written_into}

start_length : (ws buffer : List ℕ) → length ws ≤ length buffer → length (written_into buffer ws) ≡ length buffer
start_length ws buffer h = omega (arith, length-append ws (drop (length ws) buffer), length-drop (length ws) buffer)

start_more : (ws buffer : List ℕ) (x : ℕ) → length ws < length buffer
    → set (written_into buffer ws) (length ws) x ≡ written_into buffer (ws ++ (x ∷ []))
start_more ws buffer x h =
    let n : length (ws ++ (x ∷ [])) ≡ suc (length ws) = omega (arith, length-append ws (x ∷ [])) in
    rw (drop-cons buffer (length ws) 0 h, n, append_assoc ws (x ∷ []) (drop (suc (length ws)) buffer))
    (set-append_seam ws _ (drop (suc (length ws)) buffer) x)

-- the same in a loop: the buffer is `out`, as many stand in it as the index says
pub store_next : (ws out before : List ℕ) (i x : ℕ) → length ws ≡ i → i < length before → out ≡ written_into before ws
    → set out i x ≡ written_into before (ws ++ (x ∷ []))
store_next ws out before i x e h f = rw (f, ← e) (start_more ws before x (omega arith))

pub stored_length : (ws out before : List ℕ) → length ws ≤ length before → out ≡ written_into before ws → length out ≡ length before
stored_length ws out before h f = ap length f ∙ start_length ws before h

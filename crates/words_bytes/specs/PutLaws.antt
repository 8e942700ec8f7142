-- Words put into a buffer as bytes, one by one.
-- Assumes nothing.
use Rattle.std.specs.Prelude.{◌≡◌, refl, List, [], ◌∷◌, ◌++◌, ℕ, suc, ◌+◌, ◌*◌, ◌≤◌, ◌<◌, length, get_or, set, take, drop}
use Rattle.std.proofs.Common.{ap, sym, ◌∙◌, append_assoc, add-one, arith, length-append, length-drop, take-suc, drop-cons, length-take-le}
use Rattle.words.specs.Bytes.{bytes_of_word, bytes_of}
use Rattle.words_bytes.specs.Put.{with_word, put_into}

pub bytes_length : (ws : List ℕ) → length (bytes_of ws) ≡ 4 * length ws
unfolding bytes_of
bytes_length [] = refl
bytes_length (w ∷ ws) = omega (arith, bytes_length ws)

bytes_append : (vs ws : List ℕ) → bytes_of (vs ++ ws) ≡ bytes_of vs ++ bytes_of ws
unfolding bytes_of
bytes_append [] ws = refl
bytes_append (v ∷ vs) ws = ap (λ (bs : List ℕ). bytes_of_word v ++ bs) (bytes_append vs ws)

-- four bytes are stored
four : (xs rest : List ℕ) (a b c d w x y z : ℕ) (k : ℕ) → length xs ≡ k
    → set (set (set (set (xs ++ (a ∷ b ∷ c ∷ d ∷ rest)) k w) (suc k) x) (suc (suc k)) y) (suc (suc (suc k))) z ≡ xs ++ (w ∷ x ∷ y ∷ z ∷ rest)
four [] rest a b c d w x y z k e = rw (← e) refl
four (q ∷ xs) rest a b c d w x y z k e = rw (← e) (ap (λ (l : List ℕ). q ∷ l) (four xs rest a b c d w x y z (length xs) refl))

rest_of : (out : List ℕ) (k : ℕ) → k + 3 < length out
    → drop k out ≡ get_or out k 0 ∷ get_or out (suc k) 0 ∷ get_or out (suc (suc k)) 0 ∷ get_or out (suc (suc (suc k))) 0 ∷ drop (suc (suc (suc (suc k)))) out
rest_of out k h =
    drop-cons out k 0 (omega arith)
    ∙ ap (λ (l : List ℕ). get_or out k 0 ∷ l) (drop-cons out (suc k) 0 (omega arith)
    ∙ ap (λ (l : List ℕ). get_or out (suc k) 0 ∷ l) (drop-cons out (suc (suc k)) 0 (omega arith)
    ∙ ap (λ (l : List ℕ). get_or out (suc (suc k)) 0 ∷ l) (drop-cons out (suc (suc (suc k))) 0 (omega arith))))

-- one word more
pub put_next : (ws out before : List ℕ) (i at : ℕ) → i < length ws → at ≡ 4 * i → at + 3 < length before → out ≡ put_into before (take i ws)
    → with_word out at (get_or ws i 0) ≡ put_into before (take (i + 1) ws)
unfolding bytes_of
put_next ws out before i at l e h q =
    let w = get_or ws i 0 in let done = take i ws in
    let m : length done ≡ i = length-take-le i ws (omega arith) in
    let n : length (bytes_of done) ≡ at = omega (arith, bytes_length done) in
    let f : 4 * length done ≡ at = omega arith in
    let t : take (i + 1) ws ≡ done ++ (w ∷ []) = rw (add-one i) (take-suc ws i 0 l) in
    let g : 4 * length (done ++ (w ∷ [])) ≡ suc (suc (suc (suc at))) = omega (arith, length-append done (w ∷ [])) in
    let o : out ≡ bytes_of done ++ drop at before = rw f at q in
    let one : at + 1 ≡ suc at = omega arith in
    let two : at + 2 ≡ suc (suc at) = omega arith in
    let three : at + 3 ≡ suc (suc (suc at)) = omega arith in
    rw (one, two, three, o, t, g, bytes_append done (w ∷ []), rest_of before at h)
    (four (bytes_of done) (drop (suc (suc (suc (suc at)))) before) _ _ _ _ _ _ _ _ at n
    ∙ sym (append_assoc (bytes_of done) (bytes_of_word w) (drop (suc (suc (suc (suc at)))) before)))

pub put_none : (ws before : List ℕ) → before ≡ put_into before (take 0 ws)
unfolding bytes_of
put_none ws before = refl

pub put_length : (ws before : List ℕ) (i : ℕ) → i ≤ length ws → 4 * i ≤ length before → length (put_into before (take i ws)) ≡ length before
put_length ws before i l h =
    let m : length (take i ws) ≡ i = length-take-le i ws l in
    omega (
      arith,
      length-append (bytes_of (take i ws)) (drop (4 * length (take i ws)) before),
      length-drop (4 * length (take i ws)) before,
      bytes_length (take i ws),
    )

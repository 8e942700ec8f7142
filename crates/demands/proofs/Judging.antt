-- What judging and comparing show by their promises, to a caller and to C.
-- Assumes nothing but the promises.
use Rattle.std.specs.Prelude.{◌≡◌, refl, Bool, List, ℕ, ◌%◌, length}
use Rattle.std.proofs.Common.{ap, ◌∙◌, eq-eqb, ne_eqb}
use Rattle.count.specs.TruthLaws.{not_true}
use Rattle.board.specs.declared.Direction.{Direction}
use Rattle.session_rules.specs.Refusal.{Refusal, refusal}
use Rattle.session_rules.specs.Session as machine
use Rattle.session_rules.specs.Session.{pairs}
use Rattle.session_rules.specs.Sound.{Sound, sound?}
use Rattle.session_laws.proofs.Exact.{sound_exact}
use Rattle.words.specs.Bytes.{words_in}
use Rattle.call_rules.specs.Result.{Result, no, yes, and_then}
use Rattle.call_rules.specs.Reading.{read_bytes}
use Rattle.call_rules.specs.Report.{Report, report_of}
use Rattle.call_rules.proofs.AlikeLaws.{alike_exact}
use Rattle.call_rules.specs.Judge.{judged, if_sound, if_even, judge_words, of_list, alike_on, compare_words, judge_bytes, compare_bytes}
use Rattle.call_rules.specs.Editor.{editor_judge, editor_alike}
use Rattle.cidrask_told.specs.Told.{refused_told, judge_told, alike_told}
use Rattle.cidrask_told.specs.declared.Told.{Told}
use Rattle.board_roundtrip.specs.RoundTrip.{read_bytes_sound}
use Rattle.demands.specs.Demands.{WholeWords, Judges, TellsJudged, Compares, ComparesBytes, TellsCompared}

-- ── judging ──
pub unsound_first : {A : Type 0} (s : machine.Session) (x : Result A) → (Sound s → ⊥) → if_sound s x ≡ no (refusal 20 0)
unsound_first s x n = rw (not_true (sound? s) (λ e. n ((sound_exact s).0 e))) refl

pub sound_then : {A : Type 0} (s : machine.Session) (x : Result A) → Sound s → if_sound s x ≡ x
sound_then s x S = rw ((sound_exact s).1 S) refl

-- the report on the paths, or the refusal
abbrev pub reported : machine.Session → Result (List (List Direction)) → Result Report
reported s y = and_then y (λ dss. yes (report_of (pairs s.nets) dss))

pub judge_is : (s : machine.Session) (ws : List ℕ) → judge_words s ws ≡ if_sound s (reported s (judged s ws))
unfolding judge_words
judge_is s ws = refl

pub bytes_is : (s : machine.Session) (bs : List ℕ) → judge_bytes s bs ≡ if_sound s (if_even bs (reported s (judged s (words_in bs))))
unfolding judge_bytes
bytes_is s bs = refl

pub judges : (s : machine.Session) (ws : List ℕ) (x : Result Report) → x ≡ reported s (judged s ws) → Judges s ws x
judges s ws x e = record { refuses = λ q h. e ∙ ap (reported s) h; reports = λ dss h. e ∙ ap (reported s) h }

pub uneven_first : {A : Type 0} (bs : List ℕ) (x : Result A) → (WholeWords bs → ⊥) → if_even bs x ≡ no (refusal 10 0)
uneven_first bs x n = rw (ne_eqb (length bs % 4) 0 n) refl

pub even_then : {A : Type 0} (bs : List ℕ) (x : Result A) → WholeWords bs → if_even bs x ≡ x
even_then bs x e = rw (eq-eqb (length bs % 4) 0 e) refl

-- C: a session that was read is sound, so that 20 is never told
pub tells_judged : (board list : List ℕ) (s : machine.Session) (t : Told) → t ≡ judge_told (editor_judge board list) → read_bytes board ≡ yes s
    → TellsJudged s list t
unfolding editor_judge
tells_judged board list s t P e =
    let f : editor_judge board list ≡ judge_bytes s list = rw e refl in
    let x = reported s (judged s (words_in list)) in
    let g : editor_judge board list ≡ if_even list x = f ∙ (bytes_is s list ∙ sound_then s (if_even list x) (read_bytes_sound board s e)) in
    let w : WholeWords list → editor_judge board list ≡ x = λ h. g ∙ even_then list x h in record {
      uneven = λ n. P ∙ ap judge_told (g ∙ uneven_first list x n);
      refuses = λ h q k. P ∙ ap judge_told (w h ∙ ap (reported s) k);
      reports = λ h dss k. P ∙ ap judge_told (w h ∙ ap (reported s) k);
    }

pub c_refused : (board list : List ℕ) (q : Refusal) → read_bytes board ≡ no q → editor_judge board list ≡ no q
unfolding editor_judge
c_refused board list q e = rw e refl

-- ── comparing ──
-- two results of judging compared, with what is asked between the one and the other
abbrev compared_by : machine.Session → (Result Bool → Result Bool) → (x y : Result (List (List Direction))) → Result Bool
compared_by s asked x y = and_then (of_list 0 x) (λ dss. asked (and_then (of_list 1 y) (λ ess. yes (alike_on s dss ess))))

abbrev nothing : Result Bool → Result Bool
nothing x = x

pub compare_is : (s : machine.Session) (vs ws : List ℕ) → compare_words s vs ws ≡ if_sound s (compared_by s nothing (judged s vs) (judged s ws))
unfolding compare_words
compare_is s vs ws = refl

pub compare_bytes_is : (s : machine.Session) (one two : List ℕ)
    → compare_bytes s one two ≡ if_sound s (if_even one (compared_by s (if_even two) (judged s (words_in one)) (judged s (words_in two))))
unfolding compare_bytes
compare_bytes_is s one two = refl

pub compares : (s : machine.Session) (vs ws : List ℕ) (x : Result Bool) → x ≡ compared_by s nothing (judged s vs) (judged s ws) → Compares s vs ws x
compares s vs ws x e = record {
  first = λ q h. e ∙ (rw h refl);
  second = λ dss q h k. e ∙ (rw (h, k) refl);
  answers = λ dss ess h k. (alike_on s dss ess, e ∙ (rw (h, k) refl), alike_exact _ _);
}

-- bytes that are whole words are asked for nothing
whole_second : (s : machine.Session) (two : List ℕ) → WholeWords two → (x y : Result (List (List Direction)))
    → compared_by s (if_even two) x y ≡ compared_by s nothing x y
whole_second s two w (no r) y = refl
whole_second s two w (yes dss) y = even_then two _ w

pub compares_bytes : (s : machine.Session) (one two : List ℕ) (x : Result Bool)
    → x ≡ if_even one (compared_by s (if_even two) (judged s (words_in one)) (judged s (words_in two))) → ComparesBytes s one two x
compares_bytes s one two x e =
    let y = compared_by s (if_even two) (judged s (words_in one)) (judged s (words_in two)) in
    let whole : WholeWords one → x ≡ y = λ w. e ∙ even_then one y w in record {
      first_uneven = λ n. e ∙ uneven_first one y n;
      first = λ w q h. whole w ∙ (rw h refl);
      second_uneven = λ w dss h n. whole w ∙ (rw h (uneven_first two _ n));
      words = λ w u. compares s (words_in one) (words_in two) x (whole w ∙ whole_second s two u (judged s (words_in one)) (judged s (words_in two)));
    }

-- C: a session that was read is sound, so that 20 is never told
tells_compared : (s : machine.Session) (one two : List ℕ) (x : Result Bool) (t : Told) → t ≡ alike_told x → ComparesBytes s one two x
    → TellsCompared s one two t
tells_compared s one two x t P C = record {
  first_uneven = λ n. P ∙ ap alike_told (C.first_uneven n);
  first = λ w q h. P ∙ ap alike_told (C.first w q h);
  second_uneven = λ w dss h n. P ∙ ap alike_told (C.second_uneven w dss h n);
  second = λ w u dss q h k. P ∙ ap alike_told ((C.words w u).second dss q h k);
  answers = λ w u dss ess h k.
      let (y, e, exact) = (C.words w u).answers dss ess h k in
      (λ a. P ∙ ap alike_told (e ∙ ap yes (exact.1 a)), λ n. P ∙ ap alike_told (e ∙ ap yes (not_true y (λ z. n (exact.0 z)))));
}

pub c_compared : (board one two : List ℕ) (t : Told) → t ≡ alike_told (editor_alike board one two)
    → ((q : Refusal) → read_bytes board ≡ no q → t ≡ refused_told q) × ((s : machine.Session) → read_bytes board ≡ yes s → TellsCompared s one two t)
unfolding editor_alike
c_compared board one two t P = (
  λ q e. P ∙ (rw e refl),
  λ s e. tells_compared s one two (compare_bytes s one two) t (P ∙ (rw e refl))
      (compares_bytes s one two (compare_bytes s one two) (compare_bytes_is s one two ∙ sound_then s _ (read_bytes_sound board s e))),
)

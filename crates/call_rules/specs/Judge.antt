-- Definitions only: judging a list of words or bytes, and comparing two (document 01, "Judging a routing"; document 02, §3; refusals 20, 10 and 41 to
-- 46). Nothing is proved here.
use Rattle.std.specs.Prelude.{Bool, not, List, [], ◌∷◌, map, ℕ, length}
use Rattle.board.specs.declared.Direction.{Direction}
use Rattle.session_rules.specs.Refusal.{line, first_refusal}
use Rattle.session_rules.specs.Session.{Session, pairs}
use Rattle.session_rules.specs.Sound.{sound?}
use Rattle.routing_rules.specs.Routing.{trails}
use Rattle.words.specs.Bytes.{words_in, uneven}
use Rattle.call_rules.specs.Result.{Result, no, yes, and_then, unless}
use Rattle.call_rules.specs.Shape.{PathAt, between, words_refused, bad_count, paths_from}
use Rattle.call_rules.specs.Walk.{walk_paths}
use Rattle.call_rules.specs.Report.{directions, Report, report_of}
use Rattle.call_rules.specs.Alike.{alike?}

-- the directions of each path
abbrev pub paths_in : List PathAt → List (List Direction)
paths_in ps = map (λ (p : PathAt). directions p.runs) ps

-- "After the shape of the list": the paths of a list that passes, or the refusal, 41 to 46
unfoldable pub judged : Session → List ℕ → Result (List (List Direction))
judged s ws =
    unless (first_refusal (line (bad_count ws) 41 0 ∷ []))
    (unless (words_refused (length s.nets) 0 between s.nets ws)
    (and_then (walk_paths s.block.board (paths_from 0 s.nets ws) []) (λ used. yes (paths_in (paths_from 0 s.nets ws)))))

abbrev pub if_sound : {A : Type 0} → Session → Result A → Result A
if_sound s x = unless (first_refusal (line (not (sound? s)) 20 0 ∷ [])) x

-- "A word list is judged against a session, even or not."
unfoldable pub judge_words : Session → List ℕ → Result Report
judge_words s ws = if_sound s (and_then (judged s ws) (λ dss. yes (report_of (pairs s.nets) dss)))

-- a refusal's place with the number of its list before it: "puts 0 or 1 for the list before the judge's place"
abbrev pub of_list : {A : Type 0} → ℕ → Result A → Result A
of_list k (no r) = no (record { number = r.number; place = k ∷ r.place })
of_list k (yes a) = yes a

-- do the nets of a session use the same sets of edges on these paths as on those?
abbrev pub alike_on : Session → (dss ess : List (List Direction)) → Bool
alike_on s dss ess = alike? (trails (pairs s.nets) dss) (trails (pairs s.nets) ess)

-- "That call judges the first list, then the second"
unfoldable pub compare_words : Session → List ℕ → List ℕ → Result Bool
compare_words s vs ws =
    if_sound s (and_then (of_list 0 (judged s vs)) (λ dss. and_then (of_list 1 (judged s ws)) (λ ess. yes (alike_on s dss ess))))

-- the same of bytes: 10 for a count that is not a multiple of 4
abbrev pub if_even : {A : Type 0} → List ℕ → Result A → Result A
if_even bs x = unless (first_refusal (line (uneven bs) 10 0 ∷ [])) x

unfoldable pub judge_bytes : Session → List ℕ → Result Report
judge_bytes s bs = if_sound s (if_even bs (and_then (judged s (words_in bs)) (λ dss. yes (report_of (pairs s.nets) dss))))

-- and of two lists of bytes: each in turn, whole. A list's 10 has the place 0 alone.
unfoldable pub compare_bytes : Session → List ℕ → List ℕ → Result Bool
compare_bytes s one two =
    if_sound s (if_even one (and_then (of_list 0 (judged s (words_in one)))
    (λ dss. if_even two (and_then (of_list 1 (judged s (words_in two))) (λ ess. yes (alike_on s dss ess))))))

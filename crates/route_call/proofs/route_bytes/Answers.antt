-- `route_bytes` puts the words of the routing into the bytes.
use Rattle.std.proofs.Common.{◌≡◌, ◌≤◌, ◌∙◌, ℕ, List, length, take, drop, replicate, ap, length-append, length-take-le, Err, rules, arith}
use Rattle.std.proofs.lemmas.List.{length-replicate}
use Rattle.call_rules.specs.Shape.{routing_limit}
use Rattle.session.specs.View.{session_of}
use Rattle.route_call.specs.Answers.{route_answer}
use Rattle.route_call.specs.InBytes.{count_fits, bytes-refused, into-bytes}
use Rattle.route_call.proofs.route_bytes.Goals as goal

abbrev words : List ℕ
words = replicate routing_limit 0

cut_to : (room : ℕ) → room ≤ routing_limit → length (take room words) ≡ room
cut_to room h = length-take-le room words (omega (arith, length-replicate {A = ℕ} routing_limit 0))

pub returns-in_err-count : goal.returns-in_err-count
returns-in_err-count c =
    let l = cut_to c.min-room.result (omega (arith, c.min-room.ensures)) in
    let up : c.from_residual.result ≡ Err c.in_err-count.field-0.0 = search rules in
    rw up (bytes-refused (session_of c.args.s) c.route.ensures (l ∙ c.min-room.ensures) _ (ap route_answer c.in_err-count.was))

pub put_words-requires-clause-n_in_bounds : goal.put_words-requires-clause-n_in_bounds
put_words-requires-clause-n_in_bounds c =
    let room = c.min-room.result in
    let l = cut_to c.min-room.result (omega (arith, c.min-room.ensures)) in
    let k : length c.route.new.out ≡ length (take room words) = c.route.auto.out in
    let w = count_fits (session_of c.args.s) c.route.ensures k c.in_ok-count.count (ap route_answer c.in_ok-count.was) in
    omega (arith, w, k, length-append c.route.new.out (drop room words))

pub returns : goal.returns
returns c =
    let room = c.min-room.result in
    let l = cut_to c.min-room.result (omega (arith, c.min-room.ensures)) in
    rw c.put_words.ensures
    (into-bytes (session_of c.args.s) (drop room words) c.route.ensures (l ∙ c.min-room.ensures) c.in_ok-count.count
    (ap route_answer c.in_ok-count.was))

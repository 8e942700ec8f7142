-- `compare_bytes` answers as the definition does: each list in turn, then the two maps.
use mathlib.Core.Path.{◌≡◌, refl, sym, ◌∙◌}
use Rattle.std.proofs.Common.{rules}
use Rattle.std.proofs.lemmas.Result.{err_from_is_err_and}
use Rattle.session.specs.View.{session_of}
use Rattle.judge_shape.proofs.Answered.{map_err_ok, map_err_err}
use Rattle.judge_list.specs.declared.Which.TheVariants.{First, Second}
use Rattle.judge_call.specs.Answers.{in_list}
use Rattle.judge_call.specs.TwoLists.{two-unsound, two-by-maps, one_refused, two-refused, both-passed}
use Rattle.judge_call.proofs.compare_bytes.Goals as goal

pub returns-then-not-sound : goal.returns-then-not-sound
returns-then-not-sound c =
    sym (two-unsound (session_of c.args.s) c.args.first.now c.args.second.now (sym c.sound.ensures.same ∙ c.if-not-sound.true))

pub returns-in_err-map_err : goal.returns-in_err-map_err
returns-in_err-map_err c =
    let p = err_from_is_err_and c.from_residual.result c.from_residual.ensures.1 in
    let m = map_err_err _ c.check_bytes.result c.map_err.ensures.cases c.in_err-map_err.was in
    let q : c.in_err-map_err.field-0.0 ≡ in_list First m.0 = search rules in
    let t = sym c.sound.ensures.same ∙ c.if-not-sound.false in
    let w = (c.sound.ensures.exact.0 c.if-not-sound.false).within in
    rw (p.1, p.2, q)
    (two-by-maps (session_of c.args.s) c.args.first.now c.args.second.now t w c.args.s.nets refl
    (one_refused c.check_bytes.ensures c.args.second.now m.0 m.1))

pub returns-in_err-map_err-2 : goal.returns-in_err-map_err-2
returns-in_err-map_err-2 c =
    let p = err_from_is_err_and c.from_residual-in_err-map_err-2.result c.from_residual-in_err-map_err-2.ensures.1 in
    let passed = map_err_ok _ c.check_bytes.result c.map_err.ensures.cases c.in_ok-map_err.was in
    let m = map_err_err _ c.check_bytes-2.result c.map_err-2.ensures.cases c.in_err-map_err-2.was in
    let q : c.in_err-map_err-2.field-0.0 ≡ in_list Second m.0 = search rules in
    let t = sym c.sound.ensures.same ∙ c.if-not-sound.false in
    let w = (c.sound.ensures.exact.0 c.if-not-sound.false).within in
    rw (p.1, p.2, q)
    (two-by-maps (session_of c.args.s) c.args.first.now c.args.second.now t w c.args.s.nets refl
    (two-refused c.check_bytes.ensures passed c.check_bytes-2.ensures m.0 m.1))

pub returns : goal.returns
returns c =
    let one = map_err_ok _ c.check_bytes.result c.map_err.ensures.cases c.in_ok-map_err.was in
    let two = map_err_ok _ c.check_bytes-2.result c.map_err-2.ensures.cases c.in_ok-map_err-2.was in
    let t = sym c.sound.ensures.same ∙ c.if-not-sound.false in
    let w = (c.sound.ensures.exact.0 c.if-not-sound.false).within in
    two-by-maps (session_of c.args.s) c.args.first.now c.args.second.now t w c.args.s.nets refl
    (both-passed c.check_bytes.ensures one c.check_bytes-2.ensures two c.is_alike.ensures)

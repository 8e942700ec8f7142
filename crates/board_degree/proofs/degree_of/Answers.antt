-- The degree by the vertex's kind is the count of edges.
use mathlib.Core.Path.{ap, ◌∙◌}
use native.Mathlib.Omega.{arith}
use Rattle.board.specs.View.{board_of}
use Rattle.board_degree.specs.Kind.{degree_of_kind}
use Rattle.board_degree.proofs.KindLaws.{degree_by_kind, degree_at_most}
use Rattle.board_degree.proofs.degree_of.Goals as goal

pub returns : goal.returns
returns c =
    let args = c.args in let kind-of = c.kind_of in let degree-of-kind = c.degree_of_kind in record {
      value = degree-of-kind.ensures ∙ ap degree_of_kind kind-of.ensures ∙ degree_by_kind (board_of args.b) args.v;
      upper_bound = omega (arith, degree-of-kind.ensures, degree_at_most kind-of.result);
    }

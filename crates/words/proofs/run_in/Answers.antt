-- `run_in` gives the fields of a run word, a length below 32 among them.
use native.Mathlib.Omega.{arith}
use Rattle.words.proofs.run_in.Goals as goal

pub returns : goal.returns
returns c = record {
  value = cc;
  length_bound = omega arith;
}

-- `solve_linear_system` meets its contract. Assumes nothing.
use Rattle.linear.proofs.Answers.{vector_off, matrix_off, too_many, out_short, scratch_short, ended, is_square, no_square}
use borrow.Author.Rules.{rules}
use Rattle.linear.proofs.solve_linear_system.Goals.{then-vector-n-via-then-vector-n, then-vector-n-via-else-vector-n+then-ne, then-out-n-via-then-out-n, then-out-n-via-else-out-n+then-scratch-room}
use Rattle.linear.proofs.solve_linear_system.Goals as goal

pub returns-then-vector-n : goal.returns-then-vector-n
returns-then-vector-n c =
    elim c.then-vector-n.branch [
      | then-vector-n-via-then-vector-n w ↦ search (rules, vector_off)
      | then-vector-n-via-else-vector-n+then-ne w ↦ search (rules, matrix_off, no_square)
    ]

pub returns-then-n-gt68 : goal.returns-then-n-gt68
returns-then-n-gt68 c = search (rules, too_many, is_square)

pub returns-then-out-n : goal.returns-then-out-n
returns-then-out-n c =
    elim c.then-out-n.branch [
      | then-out-n-via-then-out-n w ↦ search (rules, out_short, is_square)
      | then-out-n-via-else-out-n+then-scratch-room w ↦ search (rules, scratch_short, is_square)
    ]

pub returns : goal.returns
returns c = search (rules, ended, is_square)

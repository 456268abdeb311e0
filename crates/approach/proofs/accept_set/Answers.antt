-- `accept_set` meets its contract. Assumes nothing.
use Rattle.std.proofs.Common.{refl, sym, ◌∙◌}
use Rattle.approach.specs.Answers.{set_refusal_of}
use Rattle.moment.proofs.Samples.{timed}
use Rattle.pass_set.proofs.Laws.{sizes}
use Rattle.approach.proofs.accept_set.Goals as goal

pub returns-then-not-all_in_range : goal.returns-then-not-all_in_range
unfolding set_refusal_of
returns-then-not-all_in_range c = simp (← c.all_in_range.ensures, c.if-not-all_in_range.true)

pub returns-then-not-sizes_agree : goal.returns-then-not-sizes_agree
unfolding set_refusal_of
returns-then-not-sizes_agree c =
    simp (
      ← c.all_in_range.ensures,
      ← c.sizes_agree.ensures,
      c.if-not-all_in_range.false,
      c.if-not-sizes_agree.true,
    )

pub returns : goal.returns
unfolding set_refusal_of
returns c =
    record {
      accepted = simp (
        ← c.all_in_range.ensures,
        ← c.sizes_agree.ensures,
        c.if-not-all_in_range.false,
        c.if-not-sizes_agree.false,
      );
      counts_are = refl;
      times_are = refl;
      freqs_are = refl;
      centers_are = refl;
    }

pub invariant_of-result : goal.invariant_of-result
invariant_of-result c =
    record {
      sound = record {
        sizes = sizes (sym c.sizes_agree.ensures ∙ c.if-not-sizes_agree.false);
        timed = timed (sym c.all_in_range.ensures ∙ c.if-not-all_in_range.false);
      };
    }

use Rattle.report_text.proofs.fitted.finding.Goals as goal

pub returns-in-AtNoise : goal.returns-in-AtNoise
returns-in-AtNoise c = rw c.in-AtNoise.is c.put.ensures

pub returns-in-TwoPasses : goal.returns-in-TwoPasses
returns-in-TwoPasses c = rw c.in-TwoPasses.is c.put-in-TwoPasses.ensures

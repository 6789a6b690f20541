use Rattle.mixed.proofs.numbers.ComplexInNumbers.nth.Goals as goal

pub returns : goal.returns
returns c = c.nth.ensures c.args.self.now.text.now

use Rattle.standard.proofs.chain_stands.Goals as goal
use Rattle.standard.proofs.Chains.{chain_stands}

pub returns : goal.returns
returns c = chain_stands

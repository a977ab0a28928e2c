use Rattle.fm_chain.proofs.Repeats.{chain_told}
use Rattle.fm_chain.proofs.chaining.kernel_chain.Goals as goal

pub returns-clause-chain : goal.returns-clause-chain
returns-clause-chain c =
    chain_told c.args.side c.args.u.now c.args.relations.now c.matrix-relations.ensures.complete c.requires.ring c.requires.rows c.requires.square c.columns-columns.ensures.shape
    c.first_repeat.result c.args.work.now c.first_repeat.new.work c.first_repeat.ensures.follows

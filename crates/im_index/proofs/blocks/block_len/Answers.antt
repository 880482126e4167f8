use Rattle.im_index.proofs.blocks.block_len.Goals as goal

pub returns-then-is_block-clause-own : goal.returns-then-is_block-clause-own
returns-then-is_block-clause-own c = c.is_block.ensures.own c.if-is_block.true

pub returns-then-is_block-clause-other : goal.returns-then-is_block-clause-other
returns-then-is_block-clause-other c = c.is_block.ensures.other c.if-is_block.true

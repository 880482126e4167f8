use Rattle.std.proofs.Common.{◌≡◌, ◌++◌, drop, map}
use Rattle.im_wire.specs.Texts.{digests_data, digest_lists_data}
use Rattle.im_wire.specs.Tokens.{tokens_of, tail_tokens}
use Rattle.im_wire.proofs.writing.fields.put_digest_lists.Given as goal

abbrev pub invariant-loop-digests : goal.invariant-loop-digests
invariant-loop-digests l = record {
  tokens : l.out.tokens ++ tail_tokens (map digests_data (drop l.digests-index l.lists)) ≡ l.fn.out.tokens ++ tokens_of (digest_lists_data l.lists);
  before : l.out.before ≡ l.fn.out.before;
}

use Rattle.std.proofs.Common.{◌≡◌, ◌++◌, drop, map}
use Rattle.im_wire.specs.Texts.{hex_data, digests_data}
use Rattle.im_wire.specs.Tokens.{tokens_of, tail_tokens}
use Rattle.im_wire.proofs.writing.fields.put_digests.Given as goal

abbrev pub invariant-loop-digest : goal.invariant-loop-digest
invariant-loop-digest l = record {
  tokens : l.out.tokens ++ tail_tokens (map hex_data (drop l.digest-index l.digests)) ≡ l.fn.out.tokens ++ tokens_of (digests_data l.digests);
  before : l.out.before ≡ l.fn.out.before;
}

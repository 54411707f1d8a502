-- No canonical text is refused: it is UTF-8, `parse` gives its number, and that number's text is the word.
use Rattle.std.proofs.Common.{sym, ◌∙◌}
use Rattle.std.proofs.lemmas.Fmt.{parse-decimal}
use Rattle.m2_bytes.proofs.Decimals.{IsUtf8-decimal, other_text}
use Rattle.m2_bytes.proofs.decimal.read_decimal.Goals as goal

pub returns-in_default-clause-refused : goal.returns-in_default-clause-refused
returns-in_default-clause-refused c n small e = c.in_default.ensures.cases.0 (IsUtf8-decimal n c.args.word.now small e)

pub returns-in_default-parse-clause-refused : goal.returns-in_default-parse-clause-refused
returns-in_default-parse-clause-refused c n small e =
    c.in_default-parse.not-Ok n (parse-decimal 64 n c.in-Ok.text.now c.parse.result small small (c.in-Ok.ensures.cases.0 ∙ e) c.parse.ensures.value.0)

pub returns-else-eq-clause-refused : goal.returns-else-eq-clause-refused
returns-else-eq-clause-refused c n small e =
    other_text n c.in-Ok-parse.number c.args.word.now c.as_bytes.result.now c.parse.result small e
    (rw c.in-Ok.ensures.cases.0 at c.parse.ensures.value.0) c.in-Ok-parse.is (c.as_bytes.ensures.value ∙ c.format.ensures.text) (sym c.eq.ensures ∙ c.if-eq.false)

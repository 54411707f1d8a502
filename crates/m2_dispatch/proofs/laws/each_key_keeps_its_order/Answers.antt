use Rattle.m2_dispatch.specs.Letters.{letters_of_key}
use Rattle.m2_dispatch.specs.Laws.{history_of}
use Rattle.m2_dispatch.proofs.Histories.{holds, some-first}
use Rattle.m2_dispatch.proofs.laws.each_key_keeps_its_order.Goals as goal

pub returns-clause-whole : goal.returns-clause-whole
returns-clause-whole c peer key calls = (holds peer calls).each key

pub returns-clause-ever : goal.returns-clause-ever
returns-clause-ever c peer key calls =
    let h = history_of peer calls in
    some-first (letters_of_key peer key h.ever_dispatched) (letters_of_key peer key h.waiting) (letters_of_key peer key h.ever_put) ((holds peer calls).some key)

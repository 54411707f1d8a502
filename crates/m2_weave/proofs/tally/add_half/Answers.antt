-- What a half has read is added.
use Rattle.std.proofs.Common.{◌+◌, ◌∙◌, Bool, subst, sym, OnOk}
use Rattle.std.specs.Prelude.{if◌then◌else◌, slice_index}
use Rattle.m2_weave.specs.Counting.{place_in}
use Rattle.m2_weave.specs.Strands.{read_by, strand_now, total}
use Rattle.m2_weave.specs.Table.{KeepsNumbers, names_of}
use Rattle.m2_weave.proofs.tally.add_half.Goals as goal

pub returns-then-is_half-clause-added : goal.returns-then-is_half-clause-added
returns-then-is_half-clause-added c =
    let names = names_of c.args.sockets.now in
    let Q : Bool → Type 0 = λ b.
    OnOk c.add_reads.result (KeepsNumbers names
    (λ k. slice_index c.args.numbers.now.items (place_in names k) + (if b then total (read_by k) (strand_now c.args.s.now).items else 0)) c.add_reads.new.numbers.items) in
    subst Q (sym c.if-is_half.true ∙ c.is_half.ensures) c.add_reads.ensures.added

-- One entry more, and its ask, if it judges one, behind the others.
use Rattle.std.proofs.Common.{◌≡◌, ◌∙◌, ◌++◌, ◌∷◌, ◌-◌, ◌<◌, [], List, Some, ap, arith, length, subst, sym}
use Rattle.m2_bytes.specs.Items.{Holding}
use Rattle.m2_journal.specs.declared.entry.Entry.{Entry}
use Rattle.m2_journal.specs.declared.entries.JudgedAsk.{JudgedAsk}
use Rattle.m2_journal.specs.declared.entries.ShortEntry.{ShortEntry}
use Rattle.m2_journal.specs.EntriesFields.{StandForEntries, asks_in, entries_of, entry_of}
use Rattle.m2_journal.proofs.Short.{one_entry_more}
use Rattle.m2_journal.proofs.entries.EntryList.push_reserved.Goals as goal

pub invariant_of-self : goal.invariant_of-self
invariant_of-self c =
    let asks = c.self.inside.asks.items in
    let more = asks_in c.args.entry in
    let short = c.of-short.result in
    let is : entry_of (asks ++ more) short ≡ Some c.args.entry = c.of-short.ensures asks (ap length (sym c.as_slice.ensures.value)) in
    let all = one_entry_more asks c.self.inside.entries.items more short c.args.entry c.self.invariant.stand is in
    let some : 0 < c.self.inside.room = subst (λ (h : Holding Entry). 0 < h.room) (sym c.self.view_is) c.requires in
    record {
      stand = subst (λ (them : List JudgedAsk). StandForEntries them c.push_reserved.new.self.items) (sym c.add_ask.ensures.items)
          (subst (λ (shorts : List ShortEntry). StandForEntries (asks ++ more) shorts) (sym c.push_reserved.ensures.items) all.1);
      entry_room = omega (arith, c.push_reserved.ensures.len, c.push_reserved.ensures.capacity, c.self.invariant.entry_room, some);
      ask_room = omega (arith, c.add_ask.ensures.len, c.add_ask.ensures.capacity, c.self.invariant.ask_room, some);
    }

pub returns : goal.returns
returns c =
    let asks = c.self.inside.asks.items in
    let more = asks_in c.args.entry in
    let short = c.of-short.result in
    let is : entry_of (asks ++ more) short ≡ Some c.args.entry = c.of-short.ensures asks (ap length (sym c.as_slice.ensures.value)) in
    let all = one_entry_more asks c.self.inside.entries.items more short c.args.entry c.self.invariant.stand is in
    let items = ap (λ (them : List JudgedAsk). entries_of them c.push_reserved.new.self.items) c.add_ask.ensures.items
    ∙ ap (λ (shorts : List ShortEntry). entries_of (asks ++ more) shorts) c.push_reserved.ensures.items ∙ all.0 in
    ap (λ (es : List Entry). record { items = es; room = c.self.inside.room - 1 }) items
    ∙ ap (λ (h : Holding Entry). record { items = h.items ++ c.args.entry ∷ []; room = h.room - 1 }) c.self.view_is

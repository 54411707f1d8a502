-- An ask where one is due, or else an entry.
use Rattle.std.proofs.Common.{◌≡◌, ◌≤◌, ◌+◌, ◌∙◌, ◌∷◌, length, drop, inl, inr, sym, ap, arith}
use Rattle.m2_weave.proofs.Items.{half_count, hands_on, left_at, none_left, none_there, notes, notes_last}
use Rattle.m2_weave.proofs.strand.ItemsLeft.next.Goals.{then-n-self-via-then-n-self, then-n-self-via-else-n-self+then-self-count, in-Some+else-n-self+else-self-count, in_default}
use Rattle.m2_weave.proofs.strand.ItemsLeft.next.Goals as goal

pub returns-then-n-self : goal.returns-then-n-self
returns-then-n-self c = elim c.then-n-self.branch [
  | then-n-self-via-then-n-self w ↦
      let i = c.self.inside in
      sym c.self.view_is ∙ hands_on i.socket (drop i.place i.entries.now.items) _ c.in-Some.asks.now c.in-Some.n.now i.place c.in-Some.ensures.cases.0 (inl w.if-n-self.true)
  | then-n-self-via-else-n-self+then-self-count w ↦
      let i = c.self.inside in
      let past : length i.entries.now.items ≤ i.place = omega (arith, c.len-count.ensures.count, w.if-self-count.true) in
      sym c.self.view_is ∙ hands_on i.socket (drop i.place i.entries.now.items) _ c.in-Some.asks.now c.in-Some.n.now i.place c.in-Some.ensures.cases.0
      (inr (none_left i.entries.now.items i.place past))
]

pub returns : goal.returns
returns c = elim c.match-split_first.branch [
  | in-Some+else-n-self+else-self-count w ↦
      let i = c.self.inside in
      let es = i.entries.now.items in
      let here : drop i.place es ≡ c.in-Some-get.entry ∷ drop (i.place + 1) es = left_at es i.place c.in-Some-get.entry (grind (arith, c.get.ensures, c.in-Some-get.is)) in
      sym c.self.view_is
      ∙ notes i.socket (drop i.place es) (drop (i.place + 1) es) c.in-Some-get.entry i.judged_after.now w.in-Some.asks.now w.in-Some.n.now i.place here w.in-Some.ensures.cases.0 w.if-n-self.false
  | in_default w ↦
      let i = c.self.inside in
      let es = i.entries.now.items in
      let here : drop i.place es ≡ c.in-Some-get.entry ∷ drop (i.place + 1) es = left_at es i.place c.in-Some-get.entry (grind (arith, c.get.ensures, c.in-Some-get.is)) in
      sym c.self.view_is ∙ notes_last i.socket (drop i.place es) (drop (i.place + 1) es) c.in-Some-get.entry i.judged_after.now i.place (i.place + 1) here w.in_default.ensures.cases
]

pub unreachable-requires : goal.unreachable-requires
unreachable-requires c = elim c.match-split_first.branch [
  | in-Some+else-n-self+else-self-count w ↦
      omega (arith, c.len-count.ensures.count, w.if-self-count.false, none_there c.self.inside.entries.now.items c.self.inside.place (sym c.get.ensures ∙ c.in-None.is))
  | in_default w ↦
      let i = c.self.inside in
      let es = i.entries.now.items in
      omega (
        arith,
        c.requires.some,
        ap length c.self.view_is,
        half_count i.socket i.place (drop i.place es) i.judged_after.now,
        none_left es i.place (none_there es i.place (sym c.get.ensures ∙ c.in-None.is)),
        w.in_default.ensures.cases,
      )
]

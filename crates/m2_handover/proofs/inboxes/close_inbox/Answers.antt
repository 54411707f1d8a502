use Rattle.std.proofs.Common.{◌≡◌, false, List, [], ◌∷◌, ◌++◌, map, Result, Ok, Err, sym, ap, ◌∙◌, append_assoc}
use Rattle.std.proofs.lemmas.List.{map-append}
use Rattle.std.specs.Result.{is_err}
use Rattle.m2_bytes.specs.Items.{Holding, Pushes}
use Rattle.m2_mailbox.specs.Rest.{rest_taken}
use Rattle.m2_mailbox.specs.Passes.{taken_of}
use Rattle.m2_trail.specs.Arrivals.{LooseNow}
use Rattle.m2_handover.specs.Handed.{OnItsWay, left_behind}
use Rattle.m2_handover.proofs.inboxes.close_inbox.Goals as goal

is_pushed : (answer : Result (Unit {0}) LooseNow) (old new : Holding LooseNow) (item : LooseNow) → Pushes answer old new item → is_err answer ≡ false
    → new.items ≡ old.items ++ item ∷ []
is_pushed (Ok u) old new item h e = h.0
is_pushed (Err back) old new item h e = absurd (cc)

-- one more is taken, and left behind
one_more : (halves now : List LooseNow) (got taken after : List OnItsWay) (h : OnItsWay) → now ≡ halves ++ left_behind h ∷ [] → after ≡ taken ++ h ∷ []
    → (left : List OnItsWay) × (halves ≡ map left_behind left) × (taken ≡ got ++ left) → (left : List OnItsWay) × (now ≡ map left_behind left) × (after ≡ got ++ left)
one_more halves now got taken after h n a (left, e, f) = (
  left ++ h ∷ [],
  n ∙ (ap (λ l. l ++ left_behind h ∷ []) e ∙ sym (map-append left_behind left (h ∷ []))),
  a ∙ (ap (λ l. l ++ h ∷ []) f ∙ append_assoc got left (h ∷ [])),
)

-- src/inboxes.rt:33:5
pub left-preserved : goal.left-preserved
left-preserved g c = record {
  puts = c.next-in-left.ensures.puts ∙ c.left.invariant.puts;
  all = λ has_room.
      let pushed = is_pushed c.push.result c.left.halves c.push.new.self c.into_loose.result c.push.ensures (sym c.is_err.ensures.value ∙ c.if-is_err.false) in
      one_more c.left.halves.items c.push.new.self.items (taken_of c.args.get) (rest_taken c.left.rest) (rest_taken c.next-in-left.new.self) c.in-Some-next.handed
      (pushed ∙ ap (λ (l : LooseNow). c.left.halves.items ++ l ∷ []) c.into_loose.ensures) c.in-Some-next.ensures.taken (c.left.invariant.all has_room);
}

-- What is counted of a lawful journal is what its entries post, and what they hand on.
use Rattle.std.proofs.Common.{◌≡◌, ℕ, ◌+◌, Bool, true, false, if◌then◌else◌, List, [], ◌∷◌, ◌++◌, length, map, slice_get, Option, Some, None, refl, sym, ap, ◌∙◌, arith}
use Rattle.std.specs.Option.{option_map}
use Rattle.std.proofs.lemmas.List.{length-append, map-append}
use Rattle.std.proofs.lemmas.List.Elements.{filter-append}
use Rattle.std.proofs.lemmas.Option.{slice_get-map}
use Rattle.m2_channel.specs.Channel as channel
use Rattle.m2_channel.specs.Channel.{KeyedMessage, keyed}
use Rattle.m2_channel.specs.Observed.{brought_by, brought_on, handed}
use Rattle.m2_channel.proofs.Keys.{of_key-append}
use Rattle.m2_dispatch.specs.Heard.{is_key}
use Rattle.m2_journal.specs.declared.entry.Entry.{Entry}
use Rattle.m2_journal.specs.declared.entry.Entry.TheVariants as entry
use Rattle.m2_journal.specs.declared.facts.PlanStep.{PlanStep}
use Rattle.m2_journal.specs.declared.facts.PlanStep.TheVariants as step
use Rattle.m2_journal.specs.Feeds.{next_said}
use Rattle.m2_journal.specs.Items as item
use Rattle.m2_journal.specs.Items.{Places, Sources, at_start, item_of, items_from, passed}
use Rattle.m2_journal.specs.Lawful.{IsNext, Lawful, MayAccept, OnFeedAt, key_of}
use Rattle.m2_journal.specs.Plan.{planned}
use Rattle.m2_journal.specs.Replay.{AreLawful, after_items}
use Rattle.m2_journal.specs.Said.{Said, says, brings, aborts, garbles}
use Rattle.m2_journal.specs.SideFacts.{SideFacts}
use Rattle.m2_journal.specs.State.{Feed, State, start}
use Rattle.m2_journal.specs.Steps.{after}
use Rattle.m2_message.specs.Message.{Content, content_of, unnumbered}
use Rattle.m2_channel.specs.m2_never_reset.Orders as orders
use Rattle.m2_channel.specs.m2_never_reset.Orders.{posted_in, posts_in}
use Rattle.m2_policy.specs.declared.path.Key.{Key}
use Rattle.m2_history.specs.Counted.{key_at, posted, posted_at, posted_by, accepted, is_accepted}
use Rattle.m2_history.specs.Delivered.{CountsAreOfTheItems}
use Rattle.m2_channel.proofs.Quiet.{handed_by}
use Rattle.m2_history.proofs.Keeping.{leads, steps_by}

-- ---- the steps of the plan

-- an entry passes as many steps as its item takes
passed-steps : (s : Sources) (p : Places) (e : Entry) → (passed e p).steps ≡ p.steps + steps_by (item_of s p e)
passed-steps s p (entry.Post place) = refl
passed-steps s p entry.Dial = refl
passed-steps s p (entry.Down true) = refl
passed-steps s p (entry.Down false) = omega arith
passed-steps s p (entry.Opened socket) = omega arith
passed-steps s p (entry.Read socket count) = omega arith
passed-steps s p (entry.Wrote socket count) = omega arith
passed-steps s p (entry.Closed socket) = omega arith
passed-steps s p (entry.Judged socket ask number answer) = omega arith
passed-steps s p (entry.Asked ident number) = omega arith
passed-steps s p (entry.Numbered number) = omega arith
passed-steps s p (entry.Accepted number key) = omega arith
passed-steps s p (entry.Acked number) = omega arith
passed-steps s p (entry.Obeyed full) = omega arith

-- ---- posts

-- the messages of these that have a key
abbrev of_it : SideFacts → Key → List Content → List Content
of_it g key ms = orders.of_key g key (map unnumbered ms)

of_it-append : (g : SideFacts) (key : Key) (xs ys : List Content) → of_it g key (xs ++ ys) ≡ of_it g key xs ++ of_it g key ys
of_it-append g key xs ys =
    ap (orders.of_key g key) (map-append unnumbered xs ys) ∙ filter-append (λ m. is_key (key_of g m) key) (map unnumbered xs) (map unnumbered ys)

-- a step of the plan that is posted
step-posts : (g : SideFacts) (key : Key) (place : ℕ) (o : Option PlanStep) → map unnumbered (posted_by g.node.fast key o) ≡ of_it g key (posted_in (item.post place (option_map planned o)))
step-posts g key place None = refl
step-posts g key place (Some step.Dial) = refl
step-posts g key place (Some step.Down) = refl
step-posts g key place (Some (step.Post m)) = at (is_key (key_at g.node.fast (content_of m)) key)
  where
    at : (b : Bool) → map unnumbered (if b then content_of m ∷ [] else []) ≡ (if b then unnumbered (content_of m) ∷ [] else [])
    at true = refl
    at false = refl

entry-posts : (f g : SideFacts) (key : Key) (s : Sources) (plan : List PlanStep) (p : Places) (e : Entry) (st : State) → s.plan ≡ map planned plan → p.steps ≡ st.steps →
    Lawful f (item_of s p e) st → map unnumbered (posted_at plan g.node.fast key e) ≡ of_it g key (posted_in (item_of s p e))
entry-posts f g key s plan p (entry.Post place) st same here law =
    let there : place ≡ p.steps = law.0 ∙ sym here in
    ap (λ n. map unnumbered (posted_by g.node.fast key (slice_get plan n))) there
    ∙ (step-posts g key place (slice_get plan p.steps)
    ∙ ap (λ o. of_it g key (posted_in (item.post place o))) (sym (slice_get-map planned plan p.steps) ∙ sym (ap (λ l. slice_get l p.steps) same)))
entry-posts f g key s plan p entry.Dial st same here law = refl
entry-posts f g key s plan p (entry.Down true) st same here law = refl
entry-posts f g key s plan p (entry.Down false) st same here law = refl
entry-posts f g key s plan p (entry.Opened socket) st same here law = refl
entry-posts f g key s plan p (entry.Read socket count) st same here law = refl
entry-posts f g key s plan p (entry.Wrote socket count) st same here law = refl
entry-posts f g key s plan p (entry.Closed socket) st same here law = refl
entry-posts f g key s plan p (entry.Judged socket ask number answer) st same here law = refl
entry-posts f g key s plan p (entry.Asked ident number) st same here law = refl
entry-posts f g key s plan p (entry.Numbered number) st same here law = refl
entry-posts f g key s plan p (entry.Accepted number k) st same here law = refl
entry-posts f g key s plan p (entry.Acked number) st same here law = refl
entry-posts f g key s plan p (entry.Obeyed full) st same here law = refl

goes-on : (f : SideFacts) (s : Sources) (p : Places) (e : Entry) (st : State) → p.steps ≡ st.steps → (passed e p).steps ≡ (after f (item_of s p e) st).steps
goes-on f s p e st here =
    let now = passed-steps s p e in
    let next = (leads f (item_of s p e) st).steps in
    omega (arith, now, next, here)

all-posts : (f g : SideFacts) (key : Key) (s : Sources) (plan : List PlanStep) (p : Places) (es : List Entry) (st : State) → s.plan ≡ map planned plan → p.steps ≡ st.steps →
    AreLawful f (items_from s p es) st → map unnumbered (posted plan g.node.fast key es) ≡ of_it g key (posts_in (items_from s p es))
all-posts f g key s plan p [] st same here law = refl
all-posts f g key s plan p (e ∷ es) st same here law =
    map-append unnumbered (posted_at plan g.node.fast key e) (posted plan g.node.fast key es)
    ∙ (ap (λ l. l ++ map unnumbered (posted plan g.node.fast key es)) (entry-posts f g key s plan p e st same here law.0)
    ∙ (ap (λ l. of_it g key (posted_in (item_of s p e)) ++ l) (all-posts f g key s plan (passed e p) es (after f (item_of s p e) st) same (goes-on f s p e st here) law.1)
    ∙ sym (of_it-append g key (posted_in (item_of s p e)) (posts_in (items_from s (passed e p) es)))))

-- ---- acceptances

-- of a key
abbrev count_of : Key → List KeyedMessage → ℕ
count_of key xs = length (channel.of_key key xs)

count-append : (key : Key) (xs ys : List KeyedMessage) → count_of key (xs ++ ys) ≡ count_of key xs + count_of key ys
count-append key xs ys = ap length (of_key-append key xs ys) ∙ length-append (channel.of_key key xs) (channel.of_key key ys)

abbrev one_if : Bool → ℕ
one_if b = if b then 1 else 0

-- an acceptance brings one message
brings-one : (f : SideFacts) (s : State) (number : ℕ) (k key : Key) (x : Option Said) → IsNext f s number k x → count_of key (map (keyed k) (brought_by x)) ≡ one_if (is_key k key)
brings-one f s number k key (Some (brings m)) h = at (is_key k key)
  where
    at : (b : Bool) → length (if b then unnumbered m ∷ [] else []) ≡ one_if b
    at true = refl
    at false = refl
brings-one f s number k key (Some (says c)) h = absurd h
brings-one f s number k key (Some aborts) h = absurd h
brings-one f s number k key (Some garbles) h = absurd h
brings-one f s number k key None h = absurd h

entry-accepts : (f : SideFacts) (key : Key) (s : Sources) (p : Places) (e : Entry) (st : State) → Lawful f (item_of s p e) st →
    count_of key (handed_by (item_of s p e) st) ≡ one_if (is_accepted key e)
entry-accepts f key s p (entry.Accepted number k) st law = at st.feed law
  where
    at : (o : Option Feed) → OnFeedAt o (MayAccept f st number k) → count_of key (map (keyed k) (brought_on st.last o)) ≡ one_if (is_key k key)
    at (Some d) may = brings-one f st number k key (next_said st.last d) may.next
    at None may = absurd may
entry-accepts f key s p (entry.Post place) st law = refl
entry-accepts f key s p entry.Dial st law = refl
entry-accepts f key s p (entry.Down true) st law = refl
entry-accepts f key s p (entry.Down false) st law = refl
entry-accepts f key s p (entry.Opened socket) st law = refl
entry-accepts f key s p (entry.Read socket count) st law = refl
entry-accepts f key s p (entry.Wrote socket count) st law = refl
entry-accepts f key s p (entry.Closed socket) st law = refl
entry-accepts f key s p (entry.Judged socket ask number answer) st law = refl
entry-accepts f key s p (entry.Asked ident number) st law = refl
entry-accepts f key s p (entry.Numbered number) st law = refl
entry-accepts f key s p (entry.Acked number) st law = refl
entry-accepts f key s p (entry.Obeyed full) st law = refl

counts-one : (b : Bool) (n : ℕ) → (if b then 1 + n else n) ≡ one_if b + n
counts-one true n = refl
counts-one false n = omega arith

all-accepts : (f : SideFacts) (key : Key) (s : Sources) (p : Places) (es : List Entry) (st : State) → AreLawful f (items_from s p es) st →
    count_of key (handed (after_items f (items_from s p es) st).deliveries) ≡ count_of key (handed st.deliveries) + accepted key es
all-accepts f key s p [] st law = omega arith
all-accepts f key s p (e ∷ es) st law =
    let i = item_of s p e in
    let next = all-accepts f key s (passed e p) es (after f i st) law.1 in
    let now : count_of key (handed (after f i st).deliveries) ≡ count_of key (handed st.deliveries) + count_of key (handed_by i st) =
    ap (count_of key) (leads f i st).handed ∙ count-append key (handed st.deliveries) (handed_by i st) in
    omega (arith, next, now, entry-accepts f key s p e st law.0, counts-one (is_accepted key e) (accepted key es))

-- ---- of a journal

pub counts_are : CountsAreOfTheItems
counts_are f k plan law = record {
  posted = λ g key. all-posts f g key k.sources k.plan at_start k.journal (start f) plan refl law;
  accepted = λ key. let all = all-accepts f key k.sources at_start k.journal (start f) law in omega (arith, all);
}

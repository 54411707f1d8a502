-- One direction of a link: what the one node heard of the other comes as the lines of a scenario post it.
use Rattle.std.proofs.Common.{◌≡◌, ℕ, suc, ◌+◌, ◌≤◌, ◌⊎◌, cond, List, [], ◌∷◌, ◌++◌, length, map, refl, sym, ap, subst, ◌∙◌, arith, append_assoc, append-nil, count_by}
use Rattle.std.specs.List.{AllByRecursion}
use Rattle.std.proofs.lemmas.List.{length-append, map-append}
use Rattle.std.proofs.lemmas.List.Elements.{filter-append}
use Rattle.std.proofs.lemmas.List.Sums.{sum_by-append}
use Rattle.m2_channel.proofs.Handing.{some_of_more}
use Rattle.m2_channel.specs.Handing.{IsNoResetOf}
use Rattle.m2_channel.specs.Observed.{Logs, all_of, heard_from}
use Rattle.m2_channel.specs.ObservedLaws.{ComeAsPosted, posted_to}
use Rattle.m2_channel.specs.m2_never_reset.Order.{AreFirstOf}
use Rattle.m2_dispatch.specs.Heard.{Heard, is_key, is_message_from, message, of_key, reset}
use Rattle.m2_dispatch.specs.Laws.{IsSublist}
use Rattle.m2_links_go_on.specs.m2_weave.m2_journal.Items.{JournalItem}
use Rattle.m2_links_go_on.specs.m2_weave.m2_journal.Lawful.{key_of}
use Rattle.m2_links_go_on.specs.m2_weave.m2_journal.SideFacts.{SideFacts}
use Rattle.m2_lives.proofs.LifeAfterLife.{holds_of_more}
use Rattle.m2_lives.specs.LifeAfterLife.{ComesInLives, held_for, sending_side}
use Rattle.m2_lives.specs.LivesLaws.{ArePiecesOf}
use Rattle.m2_lives.specs.ObservedLaws.{NumberedLife, lives_of}
use Rattle.m2_message.specs.Message.{Content, unnumbered}
use Rattle.m2_scenario.specs.Order.{AreSame, IsNoResetBy, IsPrefixOf, posts_between, posts_of}
use Rattle.m2_channel.specs.m2_never_reset.Orders as orders
use Rattle.m2_channel.specs.m2_never_reset.Orders.{posts_in}
use Rattle.m2_dispatch.specs.m2_policy.declared.path.Key.{Key}
use Rattle.m2_promise.specs.AtEnd.{posts_to}
use Rattle.m2_promise.specs.Posted.{AreSomeOf, HearsInLives}
use Rattle.m2_promise.proofs.PostedPlans.{count_posts, key_posts}
use Rattle.m2_promise.proofs.Prefixes.{are_same, count_heard, is_prefix, key_unnumbered}
use Rattle.m2_promise.proofs.Turns.{all_turns, count_turns, key_turns}
use Rattle.m2_scenario.specs.Draft.{DraftLine}
use Rattle.m2_script.specs.declared.calls.TurnCalls.{TurnCalls}
use Rattle.m2_script.specs.Outcome.{in_turns}
use Rattle.m2_fabric.proofs.m2_lemmas.Lists.{all_so}

-- what the node at y, which dispatches these kinds at once, heard of the node at x
pub record HearsOf (x y : ℕ) (fast : List ℕ) (lines : List DraftLine) (heard : List Heard) : Type 0 where
  pub prefix : (key : Key) → IsPrefixOf (of_key x key heard) (posts_of x y fast key lines)
  pub whole : count_by (is_message_from x) heard ≡ posts_between lines x y → (key : Key) → AreSame (of_key x key heard) (posts_of x y fast key lines)
  pub few : count_by (is_message_from x) heard ≤ posts_between lines x y
  pub no_reset : AllByRecursion (IsNoResetBy x) heard

no_reset_by : (x : ℕ) (h : Heard) → IsNoResetOf x h → IsNoResetBy x h
no_reset_by x (message p k n life m) none = tt
no_reset_by x (reset p) none = none

-- the messages of each key are in one of the logs
abbrev pub GoOneWay : ℕ → Logs → Type 0
GoOneWay x logs = (key : Key) → (of_key x key logs.fast ≡ []) ⊎ (of_key x key logs.queued ≡ [])

posts_of_key : (g : SideFacts) (x y : ℕ) (lines : List DraftLine) (key : Key) → orders.of_key g key (map unnumbered (posts_to x y lines)) ≡ map unnumbered (posts_of x y g.node.fast key lines)
posts_of_key g x y lines key = key_unnumbered g key (posts_to x y lines) ∙ ap (map unnumbered) (sym (key_posts x y g.node.fast key lines))

-- ---- what a plan still posts

-- the messages of a key are those of the first ones, and more
key_first : (g : SideFacts) (key : Key) (ps more qs : List Content) → qs ≡ ps ++ more →
    orders.of_key g key (map unnumbered qs) ≡ orders.of_key g key (map unnumbered ps) ++ orders.of_key g key (map unnumbered more)
key_first g key ps more qs e =
    ap (λ l. orders.of_key g key (map unnumbered l)) e ∙ ap (orders.of_key g key) (map-append unnumbered ps more) ∙ filter-append (λ m. is_key (key_of g m) key) (map unnumbered ps) (map unnumbered more)

-- what comes as the first of some posts comes as all of them
pub come_further : (f g : SideFacts) (ps qs : List Content) (logs : Logs) → AreFirstOf ps qs → ComeAsPosted f g ps logs → ComeAsPosted f g qs logs
come_further f g ps qs logs ([], e) come = subst (λ l. ComeAsPosted f g l logs) (sym (e ∙ append-nil ps)) come
come_further f g ps qs logs (m ∷ more, e) come = record {
  in_order = λ key. let first = come.in_order key in (
    first.0 ++ orders.of_key g key (map unnumbered (m ∷ more)),
    key_first g key ps (m ∷ more) qs e ∙ ap (λ l. l ++ orders.of_key g key (map unnumbered (m ∷ more))) first.1
        ∙ append_assoc (map unnumbered (of_key f.node.number key (all_of logs))) first.0 (orders.of_key g key (map unnumbered (m ∷ more))),
  );
  few = omega (arith, come.few, longer);
  done = λ all. absurd (omega (arith, all, come.few, longer));
}
  where
    longer : length qs ≡ length ps + suc (length more)
    longer = ap length e ∙ length-append ps (m ∷ more)

-- what is some of the first of the posts of a key is some of all of them
pub some_further : (g : SideFacts) (key : Key) (ps qs hs : List Content) → AreFirstOf ps qs → IsSublist hs (orders.of_key g key (map unnumbered ps)) → IsSublist hs (orders.of_key g key (map unnumbered qs))
some_further g key ps qs hs (more, e) some =
    subst (IsSublist hs) (sym (key_first g key ps more qs e)) (some_of_more hs (orders.of_key g key (map unnumbered ps)) (orders.of_key g key (map unnumbered more)) some)

-- ---- all of it, in order

module _ (f g : SideFacts) (y : ℕ) (lines : List DraftLine) (logs : Logs) (cs : List TurnCalls) (posted : ComeAsPosted f g (posts_to f.node.number y lines) logs) (one_way : GoOneWay f.node.number logs)
    (unreset : AllByRecursion (IsNoResetOf f.node.number) logs.fast × AllByRecursion (IsNoResetOf f.node.number) logs.queued) where
  abbrev x : ℕ
  x = f.node.number

  abbrev hs : List Heard
  hs = in_turns cs logs.fast logs.queued

  abbrev ps : List Content
  ps = posts_to x y lines

  of_it : (key : Key) → of_key x key hs ≡ of_key x key (all_of logs)
  of_it key = key_turns x key cs logs.fast logs.queued (one_way key)

  posts : (key : Key) → orders.of_key g key (map unnumbered ps) ≡ map unnumbered (posts_of x y g.node.fast key lines)
  posts key = posts_of_key g x y lines key

  count : count_by (is_message_from x) hs ≡ length (heard_from x (all_of logs))
  count =
      let both : count_by (is_message_from x) (all_of logs) ≡ count_by (is_message_from x) logs.fast + count_by (is_message_from x) logs.queued =
      sum_by-append (λ (h : Heard). cond (is_message_from x h) 1 0) logs.fast logs.queued in
      count_turns (is_message_from x) cs logs.fast logs.queued ∙ sym both ∙ count_heard x (all_of logs)

  all : posts_between lines x y ≡ length ps
  all = count_posts x y lines

  pub hears_of : HearsOf f.node.number y g.node.fast lines (in_turns cs logs.fast logs.queued)
  hears_of = record {
    prefix = λ key. is_prefix (of_key x key hs) (posts_of x y g.node.fast key lines)
        (subst (AreFirstOf (map unnumbered (of_key x key hs))) (posts key)
        (subst (λ l. AreFirstOf (map unnumbered l) (orders.of_key g key (map unnumbered ps))) (sym (of_it key)) (posted.in_order key)));
    whole = λ e key. are_same (of_key x key hs) (posts_of x y g.node.fast key lines)
        (ap (map unnumbered) (of_it key) ∙ posted.done (sym count ∙ e ∙ all) key ∙ posts key);
    few = let n = posted.few in omega (arith, n, count, all);
    no_reset = all_turns (IsNoResetBy x) cs logs.fast logs.queued
        (all_so (IsNoResetOf x) (IsNoResetBy x) (no_reset_by x) logs.fast unreset.0)
        (all_so (IsNoResetOf x) (IsNoResetBy x) (no_reset_by x) logs.queued unreset.1);
  }

-- ---- some of it, in order

pub hears_some : (f g : SideFacts) (y : ℕ) (lines : List DraftLine) (logs : Logs) (cs : List TurnCalls) → GoOneWay f.node.number logs →
    ((key : Key) → IsSublist (map unnumbered (of_key f.node.number key (all_of logs))) (orders.of_key g key (map unnumbered (posts_to f.node.number y lines)))) →
    (key : Key) → AreSomeOf (of_key f.node.number key (in_turns cs logs.fast logs.queued)) (posts_of f.node.number y g.node.fast key lines)
hears_some f g y lines logs cs one_way some key =
    let x = f.node.number in
    subst (IsSublist (map unnumbered (of_key x key (in_turns cs logs.fast logs.queued)))) (posts_of_key g x y lines key)
    (subst (λ l. IsSublist (map unnumbered l) (orders.of_key g key (map unnumbered (posts_to x y lines)))) (sym (key_turns x key cs logs.fast logs.queued (one_way key))) (some key))

-- ---- life after life

pub hears_in_lives : (f g : SideFacts) (near far : List JournalItem) (y : ℕ) (lines : List DraftLine) (logs : Logs) (cs : List TurnCalls) → GoOneWay f.node.number logs → ComesInLives f g near far logs →
    AreFirstOf (posts_in near) (posts_to f.node.number y lines) → HearsInLives f.node.number f g near far (posts_to f.node.number y lines) (in_turns cs logs.fast logs.queued)
hears_in_lives f g near far y lines logs cs one_way comes first key =
    subst (λ l. ArePiecesOf (map unnumbered l) (map (λ (n : NumberedLife). held_for n.name key (record (sending_side f g near) { posted = posted_to g (posts_to f.node.number y lines) })) (lives_of g far)))
    (sym (key_turns f.node.number key cs logs.fast logs.queued (one_way key)))
    (subst (ArePiecesOf (map unnumbered (of_key f.node.number key (all_of logs)))) (further (lives_of g far)) (comes.life_after_life key))
  where
    further : (ls : List NumberedLife) → map (λ (n : NumberedLife). held_for n.name key (sending_side f g near)) ls
        ≡ map (λ (n : NumberedLife). held_for n.name key (record (sending_side f g near) { posted = posted_to g (posts_to f.node.number y lines) })) ls
    further [] = refl
    further (n ∷ ls) =
        ap (λ h. h ∷ map (λ (m : NumberedLife). held_for m.name key (sending_side f g near)) ls) (sym (holds_of_more f g near far logs comes (posts_to f.node.number y lines) first n.name key))
        ∙ ap (λ rest. held_for n.name key (record (sending_side f g near) { posted = posted_to g (posts_to f.node.number y lines) }) ∷ rest) (further ls)

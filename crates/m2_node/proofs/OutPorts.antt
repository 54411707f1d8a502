-- Ports of the threads of nodes that listen, one node after another.
use Rattle.std.proofs.Common.{◌≡◌, ◌⊎◌, inl, inr, ◌<◌, ◌≤◌, ◌+◌, ◌++◌, ◌∙◌, ℕ, suc, true, false, List, [], ◌∷◌, length, Option, Some, None, refl, sym, ap, subst, length-append, arith}
use Rattle.std.specs.Prelude.{All, IfSome, slice_get}
use Rattle.std.specs.List.{AllByRecursion}
use Rattle.std.proofs.lemmas.Bool.{cases_eq}
use Rattle.std.proofs.lemmas.List.Elements.{recursion_from_All}
use Rattle.std.proofs.lemmas.Option.{none-some, same_Some, slice_get_within}
use Rattle.m2_addr.specs.declared.addr.Addr.{Addr}
use Rattle.m2_fabric.specs.Fabric.{ArePortsOf, SeenFabric, Splits}
use Rattle.m2_fabric.specs.Port.{SeenPort}
use Rattle.m2_fabric.specs.declared.port.Cut.{Cut}
use Rattle.m2_bytes.proofs.m2_lemmas.Lists.{all_last}
use Rattle.m2_handover.specs.Handed.{OnItsWay}
use Rattle.m2_handover.specs.Home.{HomeNow, shown}
use Rattle.m2_handover.specs.m2_mailbox.declared.inbox.Inbox.{Inbox}
use Rattle.m2_scenario.specs.declared.node.Node.{Node}
use Rattle.m2_trail.specs.declared.home.HomeOf.{HomeOf}
use Rattle.m2_node.specs.Begins.{AreDoorsAmid, AreDoorsOf, AreListening, AreNewAt, AreOutSoFar, ArePortsFor, ArePortsForNode, DoorsNow, IsNewAt, IsNewHome, IsOutIf, IsPortFor}
use Rattle.m2_node.specs.Ports.{PortNow}
use Rattle.m2_node.specs.Rooms.{HomeAt, homes_from}
use Rattle.m2_node.specs.Way.{AreOut}
use Rattle.m2_node.proofs.DoorsBegin.{no_port_left, ports_more}
use Rattle.m2_script.proofs.Apart.{there_is}
use Rattle.m2_script.proofs.SoFar.{of_some, one_of}

-- ---- ports of the fabric

-- they are at the node's address
pub new_ports : (k : ℕ) (at : Addr) (centers : ℕ) (ports : List SeenPort) (old new : SeenFabric) → ArePortsOf centers ports → Splits k ports old new → old.listens k ≡ Some at → AreNewAt at centers ports
new_ports k at centers ports old new are s e = go (old.listens k) e s.at
  where
    go : (o : Option Addr) → o ≡ Some at → IfSome o (λ a. All (λ (q : SeenPort). q.at ≡ a) ports) → AreNewAt at centers ports
    go o is all =
        let here : All (λ (q : SeenPort). q.at ≡ at) ports = subst (λ o. IfSome o (λ a. All (λ (q : SeenPort). q.at ≡ a) ports)) is all in
        record { count = are.count; each = recursion_from_All (IsNewAt at) ports (λ i d less. record { at_address = here i d less; unused = are.unused i d less }) }

-- ---- that of a node

pub off_for : (x : Node) (p : PortNow) → x.started ≡ false → p ≡ record { at = x.at; port = None } → IsPortFor x p
off_for x p off is = subst (IsPortFor x) (sym is) (record {
  at = refl;
  unused = record { made = refl; missed = refl; refused = refl; quiet = refl; waiting = refl };
  off = λ o. refl;
})

pub on_for : (x : Node) (p : PortNow) (inner : SeenPort) (home : HomeNow) (cuts : List Cut) → x.started ≡ true → p ≡ record { at = x.at; port = Some (record { inner = shown home; cuts = cuts }) } →
    IsNewHome inner home → IsNewAt x.at inner → IsPortFor x p
on_for x p inner home cuts on is over new = subst (IsPortFor x) (sym is) (record {
  at = ap (λ (i : SeenPort). i.at) over.inside ∙ new.at_address;
  unused = record {
    made = over.made;
    missed = ap (λ (i : SeenPort). i.missed) over.inside ∙ new.unused.missed;
    refused = ap (λ (i : SeenPort). i.refused) over.inside ∙ new.unused.refused;
    quiet = over.quiet;
    waiting = refl;
  };
  off = λ o. absurd (let both = sym on ∙ o in cc);
})

pub none_out : (k : ℕ) (x : Node) (f : SeenFabric) → x.started ≡ false → IsOutIf k x f f
none_out k x f off = record {
  on = λ on. absurd (let both = sym on ∙ off in cc);
  others = λ n apart. refl;
  listens = λ n. refl;
  gathered = λ n. refl;
  gathers = λ n. refl;
}

pub are_out : (k : ℕ) (x : Node) (ports : List SeenPort) (old new : SeenFabric) → ArePortsOf x.centers ports → Splits k ports old new → IsOutIf k x old new
are_out k x ports old new are s = record { on = λ on. s.node_out ∙ ap Some are.count; others = s.others_out; listens = s.listens; gathered = s.gathered; gathers = s.gathers }

-- ---- those of one node

module _ (inbox : ℕ → Option (Inbox OnItsWay HomeOf)) (x : Node) (first : DoorsNow) where
  -- these are made, and those of its threads that are left are to be over these of the fabric
  pub record ArePortsAmid (all : List PortNow) (left : List SeenPort) (d : DoorsNow) : Type 0 where
    pub count : length all + length left ≡ x.centers
    pub each : AllByRecursion (IsPortFor x) all
    pub others : AllByRecursion (IsNewAt x.at) left
    pub doors : (rest : List HomeAt) → AreDoorsAmid inbox (homes_from 0 x.centers x.centers) rest first → AreDoorsAmid inbox (homes_from (length all) (length left) x.centers) rest d

  pub no_port_yet : (all : List PortNow) (left : List SeenPort) → all ≡ [] → AreNewAt x.at x.centers left → ArePortsAmid all left first
  no_port_yet all left none new =
      let at : 0 ≡ length all = sym (ap length none) in
      record {
        count = let many = new.count in omega (arith, at, many);
        each = subst (AllByRecursion (IsPortFor x)) (sym none) tt;
        others = new.each;
        doors = λ rest d.
            subst (λ (n : ℕ). AreDoorsAmid inbox (homes_from n (length left) x.centers) rest first) at
            (subst (λ (n : ℕ). AreDoorsAmid inbox (homes_from 0 n x.centers) rest first) (sym new.count) d);
      }

  pub one_port_more : (old new : List PortNow) (p : PortNow) (inner : SeenPort) (before left : List SeenPort) (home : HomeNow) (cuts : List Cut) (d e : DoorsNow) → before ≡ inner ∷ left → ArePortsAmid old before d →
      new ≡ old ++ p ∷ [] → x.started ≡ true → p ≡ record { at = x.at; port = Some (record { inner = shown home; cuts = cuts }) } → IsNewHome inner home →
      ((h : HomeAt) (its rest : List HomeAt) → AreDoorsAmid inbox (h ∷ its) rest d → AreDoorsAmid inbox its rest e) → ArePortsAmid new left e
  one_port_more old new p inner before left home cuts d e is far more on port over gives =
      let longer : length new ≡ length old + 1 = ap length more ∙ length-append old (p ∷ []) in
      let fewer : length before ≡ suc (length left) = ap length is in
      let others : AllByRecursion (IsNewAt x.at) (inner ∷ left) = subst (AllByRecursion (IsNewAt x.at)) is far.others in
      record {
        count = let count = far.count in omega (arith, count, longer, fewer);
        each = subst (AllByRecursion (IsPortFor x)) (sym more) (all_last (IsPortFor x) old p far.each (on_for x p inner home cuts on port over others.0));
        others = others.1;
        doors = λ rest h. ports_more inbox d e (length old) (length before) (length left) (length new) x.centers rest fewer longer gives (far.doors rest h);
      }

  -- the next one of the fabric, and what its port is made of
  pub next_new : (all : List PortNow) (inner : SeenPort) (before left : List SeenPort) (d : DoorsNow) → before ≡ inner ∷ left → ArePortsAmid all before d → IsNewAt x.at inner
  next_new all inner before left d is far =
      let others : AllByRecursion (IsNewAt x.at) (inner ∷ left) = subst (AllByRecursion (IsNewAt x.at)) is far.others in
      others.0

  pub next_doors : (all : List PortNow) (inner : SeenPort) (before left : List SeenPort) (d : DoorsNow) → before ≡ inner ∷ left → ArePortsAmid all before d → (rest : List HomeAt) →
      AreDoorsAmid inbox (homes_from 0 x.centers x.centers) rest first → (h : HomeAt) × (its others : List HomeAt) × AreDoorsAmid inbox (h ∷ its) others d
  next_doors all inner before left d is far rest doors = (
    record { center = length all; centers = x.centers },
    homes_from (suc (length all)) (length left) x.centers,
    rest,
    subst (λ (n : ℕ). AreDoorsAmid inbox (homes_from (length all) n x.centers) rest d) (ap length is) (far.doors rest doors),
  )

  pub all_there : (all : List PortNow) (left : List SeenPort) (d : DoorsNow) → left ≡ [] → ArePortsAmid all left d → ArePortsForNode x all
  all_there all left d none far = record { count = let count = far.count in let few = ap length none in omega (arith, count, few); each = far.each }

  pub all_given : (all : List PortNow) (left : List SeenPort) (d : DoorsNow) → left ≡ [] → ArePortsAmid all left d → (rest : List HomeAt) →
      AreDoorsAmid inbox (homes_from 0 x.centers x.centers) rest first → AreDoorsOf inbox rest d
  all_given all left d none far rest h =
      no_port_left inbox d rest (subst (λ (n : ℕ). AreDoorsAmid inbox (homes_from (length all) n x.centers) rest d) (ap length none) (far.doors rest h))

-- ---- one node after another

-- the ports so far
pub record ArePortsSoFar (k : ℕ) (nodes : List Node) (ports : List (List PortNow)) : Type 0 where
  pub count : length ports ≡ k
  pub each : (j : ℕ) (x : Node) (ps : List PortNow) → slice_get nodes j ≡ Some x → slice_get ports j ≡ Some ps → ArePortsForNode x ps

pub if_some : {X : Type 0} (o : Option X) (P : X → Type 0) (x : X) → o ≡ Some x → P x → IfSome o P
if_some o P x is h = subst (λ o. IfSome o P) (sym is) h

module _ (nodes : List Node) where
  pub no_ports : ArePortsSoFar 0 nodes []
  no_ports = record { count = refl; each = λ j x p e f. absurd (none-some p f) }

  pub its_ports_more : (k : ℕ) (ps : List PortNow) (old new : List (List PortNow)) → ArePortsSoFar k nodes old → IfSome (slice_get nodes k) (λ x. ArePortsForNode x ps) → new ≡ old ++ ps ∷ [] → ArePortsSoFar (k + 1) nodes new
  its_ports_more k ps old new far are e = record {
    count = ap length e ∙ length-append old (ps ∷ []) ∙ ap (λ n. n + 1) far.count;
    each = λ j x qs there here. go j x qs there (one_of old ps j qs (ap (λ l. slice_get l j) (sym e) ∙ here));
  }
    where
      go : (j : ℕ) (x : Node) (qs : List PortNow) → slice_get nodes j ≡ Some x → (slice_get old j ≡ Some qs) ⊎ ((j ≡ length old) × (ps ≡ qs)) → ArePortsForNode x qs
      go j x qs there (inl h) = far.each j x qs there h
      go j x qs there (inr h) =
          subst (ArePortsForNode x) h.1 (of_some (slice_get nodes k) (λ y. ArePortsForNode y ps) x (ap (slice_get nodes) (sym (h.0 ∙ far.count)) ∙ there) are)

  pub all_ports : (k : ℕ) (ports : List (List PortNow)) → k ≡ length nodes → ArePortsSoFar k nodes ports → ArePortsFor nodes ports
  all_ports k ports all far = record { count = far.count ∙ all; each = far.each }

  pub none_out_yet : (f : SeenFabric) → AreOutSoFar 0 nodes f f
  none_out_yet f = record { out = λ j x before there on. absurd (omega (arith, before)); listens = λ n. refl; gathered = λ n. refl; gathers = λ n. refl }

  pub one_out_more : (k : ℕ) (old mid new : SeenFabric) → k < length nodes → AreOutSoFar k nodes old mid → IfSome (slice_get nodes k) (λ x. IsOutIf k x mid new) → AreOutSoFar (k + 1) nodes old new
  one_out_more k old mid new within far is = go (slice_get nodes k) refl is
    where
      go : (o : Option Node) → slice_get nodes k ≡ o → IfSome o (λ x. IsOutIf k x mid new) → AreOutSoFar (k + 1) nodes old new
      go None e h = absurd (there_is nodes k within e)
      go (Some x) here so = record {
        out = λ j y before there on. out j y before there on (cases_eq j k);
        listens = λ n. so.listens n ∙ far.listens n;
        gathered = λ n. so.gathered n ∙ far.gathered n;
        gathers = λ n. so.gathers n ∙ far.gathers n;
      }
        where
          out : (j : ℕ) (y : Node) → j < k + 1 → slice_get nodes j ≡ Some y → y.started ≡ true → (j ≡ k) ⊎ (j ≡ k → ⊥) → new.out j ≡ Some y.centers
          out j y before there on (inl same) =
              let is_y : x ≡ y = same_Some x y (sym here ∙ ap (slice_get nodes) (sym same) ∙ there) in
              ap new.out same ∙ so.on (ap (λ (z : Node). z.started) is_y ∙ on) ∙ ap (λ (z : Node). Some z.centers) is_y
          out j y before there on (inr apart) = so.others j apart ∙ far.out j y (omega (arith, before, apart)) there on

  pub still_listening : (k : ℕ) (old new : SeenFabric) → AreListening nodes old → AreOutSoFar k nodes old new → AreListening nodes new
  still_listening k old new listening far j x there on = far.listens j ∙ listening j x there on

  pub all_out : (k : ℕ) (old new : SeenFabric) → length nodes ≤ k → AreOutSoFar k nodes old new → AreOut nodes old new
  all_out k old new all far = record {
    out = λ j x there on. let w = slice_get_within nodes j x there in far.out j x (omega (arith, w, all)) there on;
    off = λ j x there off. far.listens j;
    gathered = far.gathered;
    gathers = far.gathers;
  }

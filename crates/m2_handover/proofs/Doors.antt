-- Sockets that are accepted one after another.
use Rattle.std.proofs.Common.{ℕ, true, [], ◌∷◌, ◌++◌, refl, sym, ap, subst, ◌∙◌, append-nil, append_assoc}
use Rattle.m2_edge.specs.Faults.{HasRisen, next_count}
use Rattle.m2_fabric.specs.End.{SeenEnd}
use Rattle.m2_fabric.specs.Port.{Accepts, SeenPort}
use Rattle.m2_fabric.specs.declared.port.Taken.TheVariants as accept
use Rattle.m2_handover.specs.Door.{FailsOnce, LetsIn, OnlyAccepts, StaysThere}
use Rattle.m2_handover.specs.declared.door.DoorTurn.{DoorTurn}
use Rattle.m2_handover.specs.declared.door.DoorTurn.TheVariants as turn

stays_on : (a b c : SeenPort) → StaysThere a b → StaysThere b c → StaysThere a c
stays_on a b c f g = record {
  more = f.more ++ g.more;
  made = g.made ∙ (ap (λ m. m ++ g.more) f.made ∙ append_assoc a.made f.more g.more);
  at = g.at ∙ f.at;
  accepts = g.accepts ∙ f.accepts;
  missed = g.missed ∙ f.missed;
  cuts = g.cuts ∙ f.cuts;
}

-- ---- what one accept changes

pub lets_none : (a : SeenPort) → OnlyAccepts a a
lets_none a = record { stays = record { more = []; made = sym (append-nil a.made); at = refl; accepts = refl; missed = refl; cuts = refl }; refused = refl; faults = refl }

pub lets_made : (e : SeenEnd) (a b : SeenPort) → Accepts (accept.Made e) a b → OnlyAccepts a b
lets_made e a b h = record {
  stays = record {
    more = e.id ∷ [];
    made = ap (λ (s : SeenPort). s.made) h.3;
    at = ap (λ (s : SeenPort). s.at) h.3;
    accepts = ap (λ (s : SeenPort). s.accepts) h.3;
    missed = ap (λ (s : SeenPort). s.missed) h.3;
    cuts = ap (λ (s : SeenPort). s.cuts) h.3;
  };
  refused = ap (λ (s : SeenPort). s.refused) h.3;
  faults = ap (λ (s : SeenPort). s.faults) h.3;
}

-- an accept that gives none changes no more than this
counts_stay : (a : SeenPort) (refused faults : ℕ) → StaysThere a (record a { quiet = true; refused = refused; faults = faults })
counts_stay a refused faults = record { more = []; made = sym (append-nil a.made); at = refl; accepts = refl; missed = refl; cuts = refl }

pub lets_nothing : (a b : SeenPort) → Accepts accept.NotYet a b → OnlyAccepts a b
lets_nothing a b h = record {
  stays = subst (StaysThere a) (sym h.1) (counts_stay a a.refused a.faults);
  refused = ap (λ (s : SeenPort). s.refused) h.1;
  faults = ap (λ (s : SeenPort). s.faults) h.1;
}

pub lets_failed : (a b : SeenPort) → Accepts accept.Failed a b → FailsOnce a b
lets_failed a b h = record {
  stays = subst (StaysThere a) (sym h.1) (counts_stay a (next_count a.refused) b.faults);
  refused = ap (λ (s : SeenPort). s.refused) h.1;
  risen = h.0.0;
}

-- ---- one after another

pub accepts_more : (a b c : SeenPort) → OnlyAccepts a b → OnlyAccepts b c → OnlyAccepts a c
accepts_more a b c f g = record { stays = stays_on a b c f.stays g.stays; refused = g.refused ∙ f.refused; faults = g.faults ∙ f.faults }

fails_then : (a b c : SeenPort) → OnlyAccepts a b → FailsOnce b c → FailsOnce a c
fails_then a b c f g = record {
  stays = stays_on a b c f.stays g.stays;
  refused = g.refused ∙ ap next_count f.refused;
  risen = subst (λ n. HasRisen n c.faults) f.faults g.risen;
}

pub lets_in_then : (end : DoorTurn) (a b c : SeenPort) → OnlyAccepts a b → LetsIn end b c → LetsIn end a c
lets_in_then turn.Done a b c f g = accepts_more a b c f g
lets_in_then turn.Failed a b c f g = fails_then a b c f g
lets_in_then turn.NoMemory a b c f g = accepts_more a b c f g

pub lets_stay : (end : DoorTurn) (a b : SeenPort) → LetsIn end a b → StaysThere a b
lets_stay turn.Done a b h = h.stays
lets_stay turn.Failed a b h = h.stays
lets_stay turn.NoMemory a b h = h.stays

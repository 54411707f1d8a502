-- What a SERVER_IDENT says, with its main address in place of all its addresses.
use Rattle.std.specs.Prelude.{◌≡◌, ℕ, List, Result, Ok, Err}
use Rattle.m2_addr.specs.declared.addr.Addr.{Addr}
use Rattle.m2_addr.specs.Vector.{main_of}
use Rattle.m2_control.specs.declared.control.Control.{Control}
use Rattle.m2_control.specs.declared.control.Control.TheVariants as control
use Rattle.m2_control.specs.declared.ident.Tail.{Tail}
use Rattle.m2_control.specs.declared.server_ident.ServerIdent.{ServerIdent}
use Rattle.m2_control.specs.declared.server_facts.ServerFacts.{ServerFacts}
use Rattle.m2_control.specs.declared.fault.ControlFault.{ControlFault}

abbrev pub facts_with : Addr → Tail → ServerFacts
facts_with main t = record {
  main = main;
  gid = t.gid;
  global = t.global;
  supported = t.supported;
  required = t.required;
  flags = t.flags;
  cookie = t.cookie;
}

abbrev pub facts_of : ServerIdent → Addr → ServerFacts
facts_of p main = record {
  main = main;
  gid = p.gid;
  global = p.global;
  supported = p.supported;
  required = p.required;
  flags = p.flags;
  cookie = p.cookie;
}

pub record AreFactsOf (facts : ServerFacts) (p : ServerIdent) : Type 0 where
  pub main : main_of p.addrs ≡ Ok facts.main
  pub numbers : facts ≡ facts_of p facts.main

-- The facts are those of the ident that reading the fields gives, or the fault is its fault.
abbrev pub GivesFactsRest : Result ServerFacts ControlFault → List ℕ → Result (ServerIdent × List ℕ) ControlFault → Type 0
GivesFactsRest (Ok facts) rest read = (p : ServerIdent) × (read ≡ Ok (p, rest)) × AreFactsOf facts p
GivesFactsRest (Err e) rest read = read ≡ Err e

-- the same of the whole payload
abbrev pub GivesFacts : Result ServerFacts ControlFault → Result Control ControlFault → Type 0
GivesFacts (Ok facts) read = (p : ServerIdent) × (read ≡ Ok (control.ServerIdent p)) × AreFactsOf facts p
GivesFacts (Err e) read = read ≡ Err e

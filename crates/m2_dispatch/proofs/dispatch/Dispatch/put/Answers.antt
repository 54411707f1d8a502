use Rattle.std.proofs.Common.{◌≡◌, rules, subst, sym}
use Rattle.std.specs.Prelude.{OnOk}
use Rattle.m2_shared.specs.Gates.{Return, places}
use Rattle.m2_dispatch.specs.Letters.{granted, of_peer}
use Rattle.m2_dispatch.specs.Parcel.{after_put, thrown_away}
use Rattle.m2_dispatch.specs.Waiting.{letters_in}
use Rattle.m2_dispatch.proofs.Letters.{put-owned}
use Rattle.m2_dispatch.proofs.dispatch.Dispatch.put.Goals.{in-Ok, in-Err, in-Ok-discard, in-Err-discard}
use Rattle.m2_dispatch.proofs.dispatch.Dispatch.put.Goals as goal

pub returns-after-add-clause-letters : goal.returns-after-add-clause-letters
returns-after-add-clause-letters g c =
    elim c.match-add.branch [
      | in-Ok w ↦
          let e : letters_in c.add.new.waiting.items ≡ after_put c.args.parcel c.args.self.now.waiting = search rules in
          put-owned (places c.args.throttles.now) c.args.parcel c.args.self.now.waiting (letters_in c.add.new.waiting.items) c.requires.letters c.requires.parcel e
      | in-Err w ↦
          let same : letters_in c.add.new.waiting.items ≡ c.args.self.now.waiting = search rules in
          rw same c.requires.letters
    ]

pub returns-after-discard-clause-letters : goal.returns-after-discard-clause-letters
returns-after-discard-clause-letters g c =
    elim c.match-discard.branch [
      | in-Ok-discard w ↦
          let e : letters_in c.discard.new.waiting.items ≡ after_put c.args.parcel c.args.self.now.waiting = search rules in
          put-owned (places c.args.throttles.now) c.args.parcel c.args.self.now.waiting (letters_in c.discard.new.waiting.items) c.requires.letters c.requires.parcel e
      | in-Err-discard w ↦
          let same : letters_in c.discard.new.waiting.items ≡ c.args.self.now.waiting = search rules in
          rw same c.requires.letters
    ]

pub returns-after-discard-clause-word : goal.returns-after-discard-clause-word
returns-after-discard-clause-word g c =
    let old = c.args.passes.now in
    let new = c.discard.new.passes in
    let t = c.args.throttles.now in
    elim c.match-discard.branch [
      | in-Ok-discard w ↦
          let back = subst (λ r. OnOk r (Return (granted (of_peer c.in-Discard.peer (letters_in c.self.inside.waiting.items))) t old new)) w.in-Ok-discard.is c.discard.ensures.word in
          let theirs : Return (granted (of_peer c.in-Discard.peer c.args.self.now.waiting)) t old new =
          subst (λ q. Return (granted (of_peer c.in-Discard.peer q.waiting)) t old new) c.self.view_is back in
          subst (λ r. OnOk r (Return (granted (thrown_away c.args.parcel c.args.self.now.waiting)) t old new)) (sym w.result-is)
          (subst (λ p. Return (granted (thrown_away p c.args.self.now.waiting)) t old new) (sym c.in-Discard.is) theirs)
      | in-Err-discard w ↦ subst (λ r. OnOk r (Return (granted (thrown_away c.args.parcel c.args.self.now.waiting)) t old new)) (sym w.result-is) tt
    ]

-- Where each end of a link goes on as another one, so do the bytes of each end of each socket.
use Rattle.std.proofs.Common.{◌≡◌, ◌⊎◌, inl, inr, Bool, true, false, ◌&&◌, if◌then◌else◌, List, [], ◌∷◌, ◌++◌, refl, sym, ap, ◌∙◌}
use Rattle.std.specs.List.{AllByRecursion, IsDistinct}
use Rattle.m2_fabric.specs.declared.socket.SocketId.{SocketId}
use Rattle.m2_fabric.specs.Sockets.{same_socket}
use Rattle.m2_growth.specs.Halves.{IsOneOf}
use Rattle.m2_growth.proofs.Among.{of_each}
use Rattle.m2_history.specs.Woven.{BytesNow, EndNow, bytes_at}
use Rattle.m2_weave.specs.Later.{GoesOn}
use Rattle.m2_weave.specs.Strands.{same_side}
use Rattle.m2_history.specs.WovenLink.{same_end}
use Rattle.m2_links_go_on.proofs.Going.{LaterEnd}
use Rattle.m2_fabric.proofs.m2_lemmas.Booleans.{both_of_and}
use Rattle.m2_history.proofs.Bytes.{same_end_turned, own_end}
use Rattle.m2_fabric.proofs.Sockets.{same_equal}

-- ---- the bytes of an end that is there

pub its_bytes : (e : EndNow) (es : List EndNow) → IsDistinct same_end es → IsOneOf e es → bytes_at e.socket e.opener es ≡ record { got = e.got; put = e.put }
unfolding IsDistinct
its_bytes e [] d h = absurd h
its_bytes e (x ∷ es) d (inl q) =
    let here : same_end e x ≡ true = ap (same_end e) (sym q) ∙ own_end e in
    ap (λ b. if b then record { got = x.got; put = x.put } else bytes_at e.socket e.opener es) here ∙ ap (λ (y : EndNow). record { got = y.got; put = y.put }) (sym q)
its_bytes e (x ∷ es) d (inr h) =
    let there : same_end e x ≡ false = same_end_turned e x ∙ of_each (λ y. same_end x y ≡ false) e es d.0 h in
    ap (λ b. if b then record { got = x.got; put = x.put } else bytes_at e.socket e.opener es) there ∙ its_bytes e es d.1 h

-- ---- the end whose bytes they are

abbrev pub nothing : BytesNow
nothing = record { got = []; put = [] }

pub record IsFrom (k : SocketId) (o : Bool) (all es : List EndNow) : Type 0 where
  pub end : EndNow
  pub there : IsOneOf end es
  pub socket : end.socket ≡ k
  pub opener : end.opener ≡ o
  pub bytes : bytes_at k o all ≡ record { got = end.got; put = end.put }

one_side : (a b : Bool) → same_side a b ≡ true → b ≡ a
one_side true true h = refl
one_side true false h = absurd cc
one_side false true h = absurd cc
one_side false false h = refl

pub from_end : (k : SocketId) (o : Bool) (es : List EndNow) → IsFrom k o es es ⊎ (bytes_at k o es ≡ nothing)
from_end k o [] = inr refl
from_end k o (x ∷ es) = at (same_socket k x.socket && same_side o x.opener) refl (from_end k o es)
  where
    at : (b : Bool) → (same_socket k x.socket && same_side o x.opener) ≡ b → IsFrom k o es es ⊎ (bytes_at k o es ≡ nothing) → IsFrom k o (x ∷ es) (x ∷ es) ⊎ (bytes_at k o (x ∷ es) ≡ nothing)
    at true h rest =
        let two = both_of_and (same_socket k x.socket) (same_side o x.opener) h in
        inl (record {
          end = x;
          there = inl refl;
          socket = sym (same_equal k x.socket two.0);
          opener = one_side o x.opener two.1;
          bytes = ap (λ b. if b then record { got = x.got; put = x.put } else bytes_at k o es) h;
        })
    at false h (inl f) = inl (record {
      end = f.end;
      there = inr f.there;
      socket = f.socket;
      opener = f.opener;
      bytes = ap (λ b. if b then record { got = x.got; put = x.put } else bytes_at k o es) h ∙ f.bytes;
    })
    at false h (inr none) = inr (ap (λ b. if b then record { got = x.got; put = x.put } else bytes_at k o es) h ∙ none)

-- ---- they go on

pub record BytesGoOn (old new : BytesNow) : Type 0 where
  pub got : GoesOn old.got new.got
  pub put : GoesOn old.put new.put

pub bytes_go_on : (old new : List EndNow) → IsDistinct same_end new → AllByRecursion (LaterEnd new) old → (k : SocketId) (o : Bool) → BytesGoOn (bytes_at k o old) (bytes_at k o new)
bytes_go_on old new d all k o = by (from_end k o old)
  where
    by : IsFrom k o old old ⊎ (bytes_at k o old ≡ nothing) → BytesGoOn (bytes_at k o old) (bytes_at k o new)
    by (inl f) =
        let later = of_each (LaterEnd new) f.end old all f.there in
        let now : bytes_at k o new ≡ record { got = later.end.got; put = later.end.put } =
        ap (λ j. bytes_at j o new) (sym (later.socket ∙ f.socket)) ∙ ap (λ c. bytes_at later.end.socket c new) (sym (later.opener ∙ f.opener)) ∙ its_bytes later.end new d later.there in
        record {
          got = (later.got.0, ap (λ (b : BytesNow). b.got) now ∙ later.got.1 ∙ ap (λ (b : BytesNow). b.got ++ later.got.0) (sym f.bytes));
          put = (later.put.0, ap (λ (b : BytesNow). b.put) now ∙ later.put.1 ∙ ap (λ (b : BytesNow). b.put ++ later.put.0) (sym f.bytes));
        }
    by (inr none) = record {
      got = ((bytes_at k o new).got, sym (ap (λ (b : BytesNow). b.got ++ (bytes_at k o new).got) none));
      put = ((bytes_at k o new).put, sym (ap (λ (b : BytesNow). b.put ++ (bytes_at k o new).put) none));
    }

-- What was told of a file, put together of its head and its frames.
use Rattle.std.proofs.Common.{◌≡◌, ℕ, List, [], ◌++◌, length, take, drop, Err, refl, sym, ap, ◌∙◌, subst}
use Rattle.std.proofs.lemmas.List.{append-nil, take-append-drop}
use Rattle.std.proofs.Math.Seq.{take-length}
use Rattle.m2_control.specs.declared.banner.Banner.{Banner}
use Rattle.m2_control.specs.declared.banner.BannerStep.{BannerStep}
use Rattle.m2_control.specs.declared.banner.BannerStep.TheVariants as step
use Rattle.m2_control.specs.Banner.{banner_in}
use Rattle.m2_edge.specs.Sink.{SeenSink, TakesBytes}
use Rattle.m2_edge.specs.Source.{SeenSource, IsPrefixOf}
use Rattle.m2_frame_facts.specs.declared.style.Style.{Style}
use Rattle.m2_frame_facts.specs.Line.{banner_line}
use Rattle.m2_listing.specs.declared.listing.Listing.{Listing}
use Rattle.m2_listing.specs.declared.listing.Listing.TheVariants as listing
use Rattle.m2_listing.specs.Listing.{Lists, terms}
use Rattle.m2_listing.specs.declared.listing.TheConstants.{LIMIT}
use Rattle.m2_listing.specs.Reading.{Grows}
use Rattle.m2_frame_facts.specs.Head.{IsFault, IsHead, PutsFront, TellsFrames, TellsNothing, front_line, line_behind, used_in}

-- nothing was written
pub tells_nothing : (form : Style) (src : SeenSource) (out : SeenSink) → TellsNothing form src out out
tells_nothing form src out = ([], (0, refl), (0, sym (append-nil out.taken)))

-- the line of the banner couldn't be written
pub tells_front : (form : Style) (head : List ℕ) (b : Banner) (used : ℕ) (end : Listing) (src : SeenSource) (before after : SeenSink) → step.Got b used ≡ banner_in head
    → head ≡ src.given → PutsFront (Err end) (banner_line form b) before after → IsFault end × TellsNothing form src before after
tells_front form head b used listing.WriteFault src before after is given put =
    let first : IsPrefixOf head src.given = (length head, sym (ap (take (length head)) (sym given) ∙ take-length head)) in
    (tt, (head, first, (put.0, subst (λ s. TakesBytes (take put.0 (front_line form s)) before after) is put.1)))
tells_front form head b used listing.NoMemory src before after is given put =
    (tt, subst (λ s. TellsNothing form src before s) (sym put) (tells_nothing form src before))
tells_front form head b used listing.Whole src before after is given put = absurd put
tells_front form head b used (listing.Bad place f) src before after is given put = absurd put
tells_front form head b used (listing.Cut place) src before after is given put = absurd put
tells_front form head b used (listing.TooLong place) src before after is given put = absurd put
tells_front form head b used listing.ReadFault src before after is given put = absurd put

-- the frames behind what the head says
tells_behind : (form : Style) (head : List ℕ) (s : BannerStep) (end : Listing) (old new : SeenSource) (before middle after : SeenSink) → s ≡ banner_in head
    → IsHead head old → Grows old new → TakesBytes (front_line form s) before middle
    → Lists end (terms (take (used_in s) head) LIMIT (line_behind form (used_in s))) new middle after → TellsFrames form (record { listing = end; skipped = used_in s }) new before after
tells_behind form head s end old new before middle after is h grows front lists =
    record {
      head = head;
      at_head = old;
      is_head = h;
      grows = grows;
      skipped = ap used_in is;
      middle = middle;
      front = subst (λ t. TakesBytes (front_line form t) before middle) is front;
      lists = subst (λ t. Lists end (terms (take (used_in t) head) LIMIT (line_behind form (used_in t))) new middle after) is lists;
    }

-- behind a banner
pub tells_banner : (form : Style) (head rest : List ℕ) (b : Banner) (used skipped : ℕ) (end : Listing) (old new : SeenSource) (before middle after : SeenSink)
    → step.Got b used ≡ banner_in head → skipped ≡ used → IsHead head old → rest ≡ drop used head → Grows old new → TakesBytes (banner_line form b) before middle
    → ((front : List ℕ) → old.given ≡ front ++ rest → Lists end (terms front LIMIT (line_behind form skipped)) new middle after)
    → TellsFrames form (record { listing = end; skipped = skipped }) new before after
tells_banner form head rest b used skipped end old new before middle after is same h cut grows front lists =
    let listed : Lists end (terms (take used head) LIMIT (line_behind form used)) new middle after =
    subst (λ n. Lists end (terms (take used head) LIMIT (line_behind form n)) new middle after) same
    (lists (take used head) (sym h.given ∙ sym (take-append-drop used head) ∙ ap (λ r. take used head ++ r) (sym cut))) in
    subst (λ n. TellsFrames form (record { listing = end; skipped = n }) new before after) (sym same)
    (tells_behind form head (step.Got b used) end old new before middle after is h grows front listed)

-- where there is no banner
pub tells_plain : (form : Style) (head : List ℕ) (s : BannerStep) (end : Listing) (old new : SeenSource) (before after : SeenSink) → s ≡ banner_in head → used_in s ≡ 0
    → front_line form s ≡ [] → IsHead head old → Grows old new
    → ((front : List ℕ) → old.given ≡ front ++ head → Lists end (terms front LIMIT (line_behind form 0)) new before after)
    → TellsFrames form (record { listing = end; skipped = 0 }) new before after
tells_plain form head s end old new before after is none empty h grows lists =
    subst (λ n. TellsFrames form (record { listing = end; skipped = n }) new before after) none
    (tells_behind form head s end old new before before after is h grows
    (subst (λ l. TakesBytes l before before) (sym empty) (sym (append-nil before.taken)))
    (subst (λ k. Lists end (terms (take k head) LIMIT (line_behind form k)) new before after) (sym none) (lists [] (sym h.given))))

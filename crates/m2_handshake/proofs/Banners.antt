-- What bytes are as a banner is one thing, which is computed, and stays so as more comes.
use Rattle.std.proofs.Common.{◌≡◌, ◌≢◌, ℕ, ◌+◌, ◌<◌, ◌≤◌, ◌⊎◌, inl, inr, List, [], ◌∷◌, ◌++◌, length, take, drop, slice_index, refl, sym, ap, ◌∙◌, subst, arith, length-append, length-drop}
use Rattle.std.proofs.lemmas.List.{get_or_append_left, take-append-le, drop-append-le}
use Rattle.std.specs.Int.{w16, w64, from_le_bytes}
use Rattle.m2_control.specs.declared.banner.Banner.{Banner}
use Rattle.m2_control.specs.declared.banner.BannerStep.{BannerStep}
use Rattle.m2_control.specs.declared.banner.BannerStep.TheVariants.{Got, NotYet, BadBanner}
use Rattle.m2_control.specs.declared.banner.TheConstants.{LEAST_BANNER, MOST_BANNER}
use Rattle.m2_control.specs.Banner.{Agrees, Differs, IsAllowed, IsStep, payload_length, banner_in}
use Rattle.m2_control.proofs.BannerGraph.{is_a_function}

index_stays : (bytes more : List ℕ) (i : ℕ) → i < length bytes → slice_index (bytes ++ more) i ≡ slice_index bytes i
index_stays bytes more i h = get_or_append_left bytes more 0 i h

length_stays : (bytes more : List ℕ) → 10 ≤ length bytes → payload_length (bytes ++ more) ≡ payload_length bytes
length_stays bytes more h =
    ap (λ b. from_le_bytes w16 (b ∷ slice_index (bytes ++ more) 9 ∷ [])) (index_stays bytes more 8 (omega (arith, h)))
    ∙ ap (λ b. from_le_bytes w16 (slice_index bytes 8 ∷ b ∷ [])) (index_stays bytes more 9 (omega (arith, h)))

agrees_stays : (bytes more : List ℕ) → 10 ≤ length bytes → Agrees bytes → Agrees (bytes ++ more)
agrees_stays bytes more h agrees i i8 il = index_stays bytes more i (omega (arith, h, i8)) ∙ agrees i i8 (omega (arith, h, i8))

differs_stays : (bytes more : List ℕ) → Differs bytes → Differs (bytes ++ more)
differs_stays bytes more d = (d.0, d.1, omega (arith, d.2, length-append bytes more), λ e. d.3 (sym (index_stays bytes more d.0 d.2) ∙ e))

words_stay : (bytes more : List ℕ) → 26 ≤ length bytes → take 8 (drop 10 (bytes ++ more)) ≡ take 8 (drop 10 bytes)
words_stay bytes more h =
    ap (take 8) (drop-append-le 10 bytes more (omega (arith, h))) ∙ take-append-le 8 (drop 10 bytes) more (omega (arith, h, length-drop 10 bytes))

later_words_stay : (bytes more : List ℕ) → 26 ≤ length bytes → take 8 (drop 8 (drop 10 (bytes ++ more))) ≡ take 8 (drop 8 (drop 10 bytes))
later_words_stay bytes more h =
    ap (λ l. take 8 (drop 8 l)) (drop-append-le 10 bytes more (omega (arith, h)))
    ∙ ap (take 8) (drop-append-le 8 (drop 10 bytes) more (omega (arith, h, length-drop 10 bytes)))
    ∙ take-append-le 8 (drop 8 (drop 10 bytes)) more (omega (arith, h, length-drop 10 bytes, length-drop 8 (drop 10 bytes)))

pub got_stays : (banner : Banner) (used : ℕ) (bytes more : List ℕ) → IsStep (Got banner used) bytes → IsStep (Got banner used) (bytes ++ more)
got_stays banner used bytes more h =
    let least : 26 ≤ length bytes = omega (arith, h.1.0, h.2, h.3) in
    let same = length_stays bytes more (omega (arith, least)) in (
      agrees_stays bytes more (omega (arith, least)) h.0,
      subst IsAllowed (sym same) h.1,
      h.2 ∙ ap (λ n. n + 10) (sym same),
      omega (arith, h.3, length-append bytes more),
      h.4 ∙ ap (from_le_bytes w64) (sym (words_stay bytes more least)),
      h.5 ∙ ap (from_le_bytes w64) (sym (later_words_stay bytes more least)),
    )

pub bad_stays : (bytes more : List ℕ) → IsStep BadBanner bytes → IsStep BadBanner (bytes ++ more)
bad_stays bytes more (inl d) = inl (differs_stays bytes more d)
bad_stays bytes more (inr h) = inr (omega (arith, h.0, length-append bytes more), subst (λ n. (n < LEAST_BANNER) ⊎ (MOST_BANNER < n)) (sym (length_stays bytes more h.0)) h.1)

-- ---- as a function

pub is_step : (bytes : List ℕ) → IsStep (banner_in bytes) bytes
is_step bytes = (is_a_function (banner_in bytes) bytes).1 refl

-- what bytes are as a banner is what is computed
pub step_is : (b : BannerStep) (bytes : List ℕ) → IsStep b bytes → banner_in bytes ≡ b
step_is b bytes h = sym ((is_a_function b bytes).0 h)

pub banner_stays : (b : BannerStep) (bytes more : List ℕ) → banner_in bytes ≡ b → b ≢ NotYet → banner_in (bytes ++ more) ≡ b
banner_stays (Got banner used) bytes more e n = step_is (Got banner used) (bytes ++ more) (got_stays banner used bytes more (subst (λ b. IsStep b bytes) e (is_step bytes)))
banner_stays NotYet bytes more e n = absurd (n refl)
banner_stays BadBanner bytes more e n = step_is BadBanner (bytes ++ more) (bad_stays bytes more (subst (λ b. IsStep b bytes) e (is_step bytes)))

-- The banner: 8 bytes `ceph v2` and a line feed, u16 length of the payload, and in the payload u64 supported and u64
-- required features. Format: Ceph's msgr2 documentation. That further bytes of the payload are ignored, and that its
-- length is from LEAST_BANNER to MOST_BANNER, is this project's profile.
use Rattle.std.specs.Prelude.{◌≡◌, ◌≢◌, ℕ, ◌+◌, ◌<◌, ◌≤◌, ◌⊎◌, ◌==◌, ◌&&◌, ◌||◌, Bool, true, false, nat_lt, if◌then◌else◌, List, [], ◌∷◌, ◌++◌, length, drop, take, slice_index}
use Rattle.std.specs.Int.{w16, w64, to_le_bytes, from_le_bytes}
use Rattle.m2_control.specs.declared.banner.Banner.{Banner}
use Rattle.m2_control.specs.declared.banner.BannerStep.{BannerStep}
use Rattle.m2_control.specs.declared.banner.TheConstants.{LEAST_BANNER, MOST_BANNER}
use Rattle.m2_control.specs.declared.banner.BannerStep.TheVariants.{Got, NotYet, BadBanner}

-- `ceph v2` and a line feed
abbrev pub magic : List ℕ
magic = 99 ∷ 101 ∷ 112 ∷ 104 ∷ 32 ∷ 118 ∷ 50 ∷ 10 ∷ []

-- those of the first 8 bytes that are there are right
abbrev pub Agrees : List ℕ → Type 0
Agrees bytes = (i : ℕ) → i < 8 → i < length bytes → slice_index bytes i ≡ slice_index magic i

-- one of them is wrong
abbrev pub Differs : List ℕ → Type 0
Differs bytes = (i : ℕ) × (i < 8) × (i < length bytes) × (slice_index bytes i ≢ slice_index magic i)

-- the length of the payload, where it is there
abbrev pub payload_length : List ℕ → ℕ
payload_length bytes = from_le_bytes w16 (slice_index bytes 8 ∷ slice_index bytes 9 ∷ [])

abbrev pub IsAllowed : ℕ → Type 0
IsAllowed n = (LEAST_BANNER ≤ n) × (n ≤ MOST_BANNER)

-- A banner is there as a whole; what is there is a prefix of one; or of none.
abbrev pub IsStep : BannerStep → List ℕ → Type 0
IsStep (Got banner used) bytes = Agrees bytes × IsAllowed (payload_length bytes) × (used ≡ payload_length bytes + 10) × (used ≤ length bytes)
    × (banner.supported ≡ from_le_bytes w64 (take 8 (drop 10 bytes))) × (banner.required ≡ from_le_bytes w64 (take 8 (drop 8 (drop 10 bytes))))
IsStep NotYet bytes = Agrees bytes × ((length bytes < 10) ⊎ (IsAllowed (payload_length bytes) × (length bytes < payload_length bytes + 10)))
IsStep BadBanner bytes = Differs bytes ⊎ ((10 ≤ length bytes) × ((payload_length bytes < LEAST_BANNER) ⊎ (MOST_BANNER < payload_length bytes)))

abbrev pub banner_text : Banner → List ℕ
banner_text b = magic ++ to_le_bytes w16 LEAST_BANNER ++ to_le_bytes w64 b.supported ++ to_le_bytes w64 b.required

-- ---- the same as a function of the bytes

-- the first list is a prefix of the second
abbrev pub begins : List ℕ → List ℕ → Bool
begins [] ys = true
begins (x ∷ xs) [] = false
begins (x ∷ xs) (y ∷ ys) = (x == y) && begins xs ys

abbrev pub features_in : List ℕ → Banner
features_in bytes = record { supported = from_le_bytes w64 (take 8 (drop 10 bytes)); required = from_le_bytes w64 (take 8 (drop 8 (drop 10 bytes))) }

-- of bytes that begin as a banner does
abbrev pub sized_banner_in : List ℕ → BannerStep
sized_banner_in bytes =
    if nat_lt (length bytes) 10 then NotYet
    else if nat_lt (payload_length bytes) LEAST_BANNER || nat_lt MOST_BANNER (payload_length bytes) then BadBanner
    else if nat_lt (length bytes) (payload_length bytes + 10) then NotYet
    else Got (features_in bytes) (payload_length bytes + 10)

abbrev pub banner_in : List ℕ → BannerStep
banner_in bytes = if begins (take 8 bytes) magic then sized_banner_in bytes else BadBanner

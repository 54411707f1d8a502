-- The payload of IDENT_MISSING_FEATURES: bits. Format: Ceph's msgr2 documentation; what is refused is this project's profile.
use Rattle.std.specs.Prelude.{ℕ, List, Result}
use Rattle.std.specs.Int.{w64, to_le_bytes}
use Rattle.m2_addr.specs.Reading.{number, made}
use Rattle.m2_addr.specs.Grammar.{IsNumber}
use Rattle.m2_control.specs.declared.ident_missing_features.IdentMissingFeatures.{IdentMissingFeatures}
use Rattle.m2_control.specs.declared.fault.ControlFault.{ControlFault}
use Rattle.m2_control.specs.declared.fault.ControlFault.TheVariants.{Short}

abbrev pub make_ident_missing_features : ℕ → IdentMissingFeatures
make_ident_missing_features x = record { bits = x }

abbrev pub ident_missing_features_parts : IdentMissingFeatures → ℕ
ident_missing_features_parts p = p.bits

-- without where its parts lie in memory
abbrev pub bare_ident_missing_features : IdentMissingFeatures → IdentMissingFeatures
bare_ident_missing_features p = make_ident_missing_features (ident_missing_features_parts p)

abbrev pub IsIdentMissingFeatures : IdentMissingFeatures → List ℕ → Type 0
IsIdentMissingFeatures p = IsNumber w64 p.bits

abbrev pub ident_missing_features_at : List ℕ → Result (IdentMissingFeatures × List ℕ) ControlFault
ident_missing_features_at = made make_ident_missing_features (number w64 Short)

abbrev pub ident_missing_features_text : IdentMissingFeatures → List ℕ
ident_missing_features_text p = to_le_bytes w64 p.bits

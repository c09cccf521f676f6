-- What sources and sinks over bytes in memory do, call by call.
use Rattle.std.specs.Prelude.{ℕ, ◌+◌, ◌-◌, ◌^◌, min, List, ◌++◌, take, drop, refl}
use Rattle.std.specs.Coded.{Coded, code_by, coded×, coded_ℕ, coded_list}

-- a source: the bytes still to come, the bytes a call at most, the calls that fail, the calls and the faults so far
pub record Feed : Type 0 where
  pub left : List ℕ
  pub piece : ℕ
  pub fails : List ℕ
  pub calls : ℕ
  pub faults : ℕ

abbrev pub feed_code : Coded Feed
feed_code =
    code_by (List ℕ × (ℕ × (List ℕ × (ℕ × ℕ)))) (coded× (coded_list coded_ℕ) (coded× coded_ℕ (coded× (coded_list coded_ℕ) (coded× coded_ℕ coded_ℕ))))
    (λ f. (f.left, (f.piece, (f.fails, (f.calls, f.faults)))))
    (λ p. record { left = p.0; piece = p.1.0; fails = p.1.1.0; calls = p.1.1.1.0; faults = p.1.1.1.1 })
    (λ _. refl)

-- a sink: the bytes taken, the bytes that still have room, the bytes a call at most, the calls that fail, the calls and the faults so far
pub record Store : Type 0 where
  pub taken : List ℕ
  pub room : ℕ
  pub piece : ℕ
  pub fails : List ℕ
  pub calls : ℕ
  pub faults : ℕ

abbrev pub store_code : Coded Store
store_code =
    code_by (List ℕ × (ℕ × (ℕ × (List ℕ × (ℕ × ℕ))))) (coded× (coded_list coded_ℕ) (coded× coded_ℕ (coded× coded_ℕ (coded× (coded_list coded_ℕ) (coded× coded_ℕ coded_ℕ)))))
    (λ s. (s.taken, (s.room, (s.piece, (s.fails, (s.calls, s.faults))))))
    (λ p. record { taken = p.0; room = p.1.0; piece = p.1.1.0; fails = p.1.1.1.0; calls = p.1.1.1.1.0; faults = p.1.1.1.1.1 })
    (λ _. refl)

-- one more, up to the last value of a count
abbrev pub counted : ℕ → ℕ
counted n = min (n + 1) (2 ^ 64 - 1)

-- a source after a call that failed
abbrev pub feed_failed : Feed → Feed
feed_failed f = record f { calls = counted f.calls; faults = counted f.faults }

-- a source after a call that gave n bytes
abbrev pub feed_gave : ℕ → Feed → Feed
feed_gave n f = record f { left = drop n f.left; calls = counted f.calls }

-- a sink after a call that failed
abbrev pub store_failed : Store → Store
store_failed s = record s { calls = counted s.calls; faults = counted s.faults }

-- a sink after a call that took n of these bytes
abbrev pub store_took : ℕ → List ℕ → Store → Store
store_took n bytes s = record s { taken = s.taken ++ take n bytes; room = s.room - n; calls = counted s.calls }

use Rattle.std.proofs.Common.{◌≡◌, drop, fold}
use Rattle.hash_model.specs.PairHash.{dot32}
use Rattle.hash_model.specs.Serialize.{hash_of}
use Rattle.session_driver.proofs.digest.with_params.Given as goal

-- what is so far with what is left comes to what the start with all comes to
abbrev pub invariant-params : goal.invariant-params
invariant-params l =
    fold (λ so_far param. dot32 so_far (hash_of param)) l.so_far (drop l.param-index l.params)
    ≡ fold (λ so_far param. dot32 so_far (hash_of param)) l.fn.start l.params

-- What a limit is taken of: one type of data for all direct systems that are asked about, so that laws can speak of each of them.
use Rattle.std.specs.Prelude.{ℕ}
use Rattle.fm_gfp.specs.declared.prime.Prime.{Prime}
use Rattle.fm_limit.specs.System.{System}
use Rattle.fm_limit.specs.DirectSystem.{degree_system}
use Rattle.fm_limit.specs.ResolvedIdeal.{ResolvedIdeal}
use Rattle.fm_limit.specs.Classes.{matrices, degree_in}
use Rattle.fm_limit.specs.GivenModules.{GivenModule, module_system}
use Rattle.fm_limit.specs.GivenSystems.{GivenSystem, system_of, kernel_system_of}

pub data LimitOf (p : Prime) (n : ℕ) : Type 0 where
  -- a resolved ideal in degree i
  ideal_limit : (i : ℕ) (I : ResolvedIdeal p n) → LimitOf p n
  -- a module with a morphism
  module_limit : (G : GivenModule p n) → LimitOf p n
  -- four matrices, where cocycles are a kernel, and where they are a preimage
  kernel_limit : (G : GivenSystem p n) → LimitOf p n
  preimage_limit : (G : GivenSystem p n) → LimitOf p n

module _ (p : Prime) (n : ℕ) where
  -- the direct system of each
  abbrev pub system_from : LimitOf p n → System (matrices p n)
  system_from (ideal_limit i I) = degree_system (matrices p n) (degree_in p n i I)
  system_from (module_limit G) = module_system p n G
  system_from (kernel_limit G) = kernel_system_of p n G
  system_from (preimage_limit G) = system_of p n G

-- The laws of single pieces, from what their files prove.
use Rattle.pw_simulation.specs.Laws.{AddressesAreBrought, FaultsStop, LoadsAreCarriedOut, StoresAreCarriedOut}
use Rattle.pw_simulation.proofs.Steps.{moves_load, moves_store}
use Rattle.pw_simulation.proofs.Pieces.{address_runs, fault_halts}

pub addresses_are_brought : AddressesAreBrought
addresses_are_brought w m u r to s apart ready brings =
    let b = address_runs w apart m u r to s ready brings in record { registers = b.registers; puts = b.puts; reaches = b.reaches }

pub faults_stop : FaultsStop
faults_stop w m u stack_pointer calls_left f line d st s apart small at here inside = fault_halts w apart m u stack_pointer calls_left f line d st s small at here inside

pub loads_are_carried_out : LoadsAreCarriedOut
loads_are_carried_out w s rd rs1 imm at value apart ready here place has = (moves_load w apart s rd rs1 imm at value ready here place has).goes

pub stores_are_carried_out : StoresAreCarriedOut
stores_are_carried_out w s rs1 rs2 imm at was apart ready here place has = (moves_store w apart s rs1 rs2 imm at was ready here place has).goes

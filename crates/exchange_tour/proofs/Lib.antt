mod Pairing
